-- The loop over the lines of a route file: what holds before each line (`Going`), and what each way out gives.
use Rattle.std.proofs.lemmas.List.{append-nil}
use mathlib.Core.Path.{◌≡◌, refl, sym, ap, ◌∙◌}
use mathlib.Core.Bool.{cond}
use mathlib.Core.List.{List, [], ◌∷◌}
use Prim.Native.Nat.{ℕ, suc, ◌+◌, ◌-◌, ◌*◌, ◌≤◌, ◌<◌}
use native.Mathlib.Omega.{arith}
use lib.Dec.{eqb}
use lib.ListN.{length}
use borrow.Author.Tests.{eq-eqb, ne_eqb}
use Rattle.meaning.specs.declared.Situation.{Situation}
use Rattle.meaning.specs.declared.Line.{Line}
use Rattle.meaning.specs.declared.Refusal.{Refusal}
use Rattle.meaning.specs.File.{refusal}
use Rattle.route_meaning.specs.Routes.{Route, Progress, no_rest, nothing_read, kind_next, route_line, route_cause, after_line, line_before, refusal_from, rest_from, lines_in, routes_read}
use Rattle.route_meaning.proofs.RouteFile.{OneOf, no_cause, next_k, next_w, next_r, after_r, after_k, after_w}
use Rattle.meaning.specs.declared.Cause.{Cause}
use Rattle.meaning.proofs.Numbered.{some_number}
use Rattle.meaning.specs.Refusals.{number_of}
use Rattle.routes.specs.declared.RouteWords.{RouteWords}
use Rattle.routes.specs.declared.place.RouteLine.{RouteLine}
use Rattle.routes.specs.declared.place.RouteLine.TheVariants.{R, K, W}
use Rattle.routes.specs.declared.place.Place.{Place}
use Rattle.routes.specs.Sets.{Held, SoFar, Stops, Goes, RoutesAre, RefusedWith, joined, kind_of, number_of_line, progress_of}

-- Before line i: the words are those of the routes so far, and with them the lines from here on give the answer.
pub record Going (s : Situation) (file : List ℕ) (words : RouteWords) (p : Place) (i : ℕ) : Type 0 where
  pub rs : List Route
  pub so_far : SoFar words p.routes rs
  pub count : i + p.sections + p.turnouts ≤ 49 * p.routes
  pub refuses : refusal_from s file (lines_in file - i) i (progress_of p) ≡ (routes_read s file).refusal
  pub says : joined rs (rest_from file (lines_in file - i) i (progress_of p)) ≡ (routes_read s file).routes

pub going_start : (s : Situation) (file : List ℕ) (words : RouteWords) (p : Place) → progress_of p ≡ nothing_read → Held words [] → Going s file words p 0
unfolding routes_read
going_start s file words p at held =
    let e : lines_in file - 0 ≡ lines_in file = omega arith in
    record {
      rs = [];
      so_far = (ap (λ (g : Progress). g.routes) at, held);
      count = omega (arith, ap (λ (g : Progress). g.sections) at, ap (λ (g : Progress). g.turnouts) at);
      refuses = rw (e, at) refl;
      says = rw (e, at) refl;
    }

-- A kind whose number is 0 is R.
pub is_r : (k : RouteLine) → number_of_line k ≡ 0 → k ≡ R
is_r R z = refl
is_r K z = absurd (omega arith)
is_r W z = absurd (omega arith)

-- The routes, where no line is to come.
joined_none : (rs : List Route) → joined rs no_rest ≡ rs
joined_none [] = refl
joined_none (r ∷ []) = rw (append-nil r.sections, append-nil r.wants) refl
joined_none (r ∷ q ∷ rs) = ap (λ (u : List Route). r ∷ u) (joined_none (q ∷ rs))

module _ {s : Situation} {file : List ℕ} {words : RouteWords} {p : Place} {i : ℕ} (w : Going s file words p i) where
  abbrev g : Progress
  g = progress_of p

  -- At most 49 lines for each of 64 routes.
  pub going_lines : i ≤ 3136
  going_lines = omega (arith, w.count, p.few)

  -- The kind that is to come.
  pub going_next : kind_of p ≡ kind_next g
  unfolding kind_next
  going_next = refl

  -- Line i.
  module _ (more : i < lines_in file) where
    abbrev line : Line
    line = route_line file i (kind_of p)

    line_is : line ≡ route_line file i (kind_next g)
    line_is = rw going_next refl

    one_more : lines_in file - i ≡ suc (lines_in file - (i + 1))
    one_more = omega (arith, more)

    -- One line is left, and others after it.
    refuses : cond (eqb (route_cause s g line) 0) (refusal_from s file (lines_in file - (i + 1)) (i + 1) (after_line g line))
        (refusal (route_cause s g line) (i + 1))
        ≡ (routes_read s file).refusal
    unfolding refusal_from
    refuses = rw line_is (rw one_more at w.refuses)

    says : joined w.rs (line_before line (rest_from file (lines_in file - (i + 1)) (i + 1) (after_line g line))) ≡ (routes_read s file).routes
    unfolding rest_from
    says = rw line_is (rw one_more at w.says)

    -- A line with a cause.
    pub going_refused : (e : Cause) → Stops s line p e → RefusedWith s file (refusal (number_of e) (i + 1))
    going_refused e is =
        let some : number_of e ≡ 0 → ⊥ = some_number e in
        (sym (rw (ne_eqb (route_cause s g line) 0 (λ z. some (is ∙ z))) at refuses) ∙ rw is refl, some)

    -- A line with none.
    module _ {words' : RouteWords} {p' : Place} (goes : Goes s line p words words' p') where
      count : OneOf s g line → i + 1 + (after_line g line).sections + (after_line g line).turnouts ≤ 49 * (after_line g line).routes
      count one = grind (arith, w.count, next_k, next_r, next_w, after_k, after_r, after_w)

      pub going_more : Going s file words' p' (i + 1)
      going_more =
          let m = goes.more w.rs w.so_far in
          let none : route_cause s g line ≡ 0 = sym goes.none in
          record {
            rs = m.0;
            so_far = m.1;
            count = rw (← goes.place) at count (no_cause s g file i line line_is none);
            refuses = rw goes.place (rw (eq-eqb (route_cause s g line) 0 none) at refuses);
            says = m.2 (rest_from file (lines_in file - (i + 1)) (i + 1) (progress_of p')) ∙ rw goes.place says;
          }

  -- The end of the file.
  module _ (end : lines_in file ≤ i) where
    none_left : lines_in file - i ≡ 0
    none_left = omega (arith, end)

    ends : cond (eqb (kind_next g) 0) (refusal 0 0) (refusal 14 (i + 1)) ≡ (routes_read s file).refusal
    unfolding refusal_from
    ends = rw none_left at w.refuses

    -- A line is missing.
    pub end_missing : (n : ℕ) → i ≡ n → (kind_of p ≡ 0 → ⊥) → RefusedWith s file (refusal 14 (n + 1))
    end_missing n all some = rw (← all) (sym (rw (ne_eqb (kind_next g) 0 (λ z. some (going_next ∙ z))) at ends), λ z. omega (arith, z))

    -- None is.
    pub end_read : kind_of p ≡ 0 → RoutesAre s file words p.routes
    unfolding rest_from
    end_read none =
        let same : w.rs ≡ (routes_read s file).routes = sym (joined_none w.rs) ∙ rw none_left at w.says in
        record {
          none = sym (ap (λ (q : Refusal). q.number) (rw (eq-eqb (kind_next g) 0 (sym going_next ∙ none)) at ends));
          count = w.so_far.0 ∙ ap length same;
          few = p.few;
          held = rw (← same) w.so_far.1;
        }
