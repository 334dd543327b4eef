-- What the operation answers, and what the table holds after it, in the order of the code: the station file's refusal, the route file's, 9, the
-- table.
use Rattle.std.specs.Prelude.{Result, Ok, Err}
use Rattle.std.proofs.lemmas.Result.{err_from_is_err_and}
use mathlib.Core.Path.{◌≡◌, refl, ap, ◌∙◌}
use mathlib.Core.Bool.{cond}
use mathlib.Core.List.{List, ◌++◌}
use Prim.Native.Nat.{ℕ, ◌*◌, ◌≤◌, ◌<◌}
use native.Mathlib.Omega.{arith}
use lib.Dec.{ltb}
use lib.ListN.{length, drop}
use borrow.Author.Tests.{eq-eqb, ne_eqb, lt-ltb, le-ltb}
use Rattle.meaning.specs.declared.Situation.{Situation}
use Rattle.meaning.specs.declared.Refusal.{Refusal}
use Rattle.meaning.specs.File.{refusal, reading, reading_answer}
use Rattle.meaning.specs.Operations.{first_of}
use Rattle.route_meaning.specs.Routes.{RoutesRead, table_of, routes_read, routes_refusal, routes_answer, after_routes}
use Rattle.meaning.proofs.Refused.{accepted_as, refused_as, refused_with}
use Rattle.routes.specs.declared.RouteWords.{RouteWords}
use Rattle.routes.specs.Sets.{RoutesAre, RefusedWith}

module _ (file routes table : List ℕ) where
  -- This is the answer, and what the table holds after it.
  abbrev pub Answered : List ℕ → Result ℕ Refusal → Type 0
  Answered table' r = (r ≡ routes_answer file routes (length table)) × (table' ≡ after_routes file routes table)

  refused : {q : Refusal} → routes_refusal file routes (length table) ≡ q → (q.number ≡ 0 → ⊥) → Answered table (Err q)
  unfolding routes_answer after_routes
  refused {q} is some = (rw is (refused_with q _ some), rw (is, ne_eqb q.number 0 some) refl)

  pub refuses_file : {q : Refusal} → reading_answer file ≡ Err q → Answered table (Err q)
  unfolding routes_refusal
  refuses_file {q} h =
      let w = refused_as file h in
      refused (rw (ne_eqb (reading file).refusal.number 0 w.0, w.1) refl) (λ z. w.0 (ap (λ (x : Refusal). x.number) w.1 ∙ z))

  module _ {s : Situation} (accepted : reading_answer file ≡ Ok s) where
    abbrev read : RoutesRead
    read = routes_read s routes

    by_routes : routes_refusal file routes (length table)
        ≡ first_of read.refusal (cond (ltb (length table) (length read.routes * length read.routes)) (refusal 9 0) (refusal 0 0))
    unfolding routes_refusal
    by_routes = let a = accepted_as file accepted in rw (eq-eqb (reading file).refusal.number 0 a.0, a.1) refl

    pub refuses_routes : {q : Refusal} → RefusedWith s routes q → Answered table (Err q)
    refuses_routes {q} r = refused (by_routes ∙ rw (r.0, ne_eqb q.number 0 r.1) refl) r.1

    module _ {words : RouteWords} {n : ℕ} (are : RoutesAre s routes words n) where
      pub refuses_short : length table < n * n → Answered table (Err (refusal 9 0))
      refuses_short h =
          refused (by_routes ∙ rw (eq-eqb read.refusal.number 0 are.none, ← are.count, lt-ltb (length table) (n * n) h) refl) (λ z. omega (arith, z))

      -- With none of these, the table is filled.
      pub fills : n * n ≤ length table → {table' : List ℕ} → table' ≡ table_of read.routes → Answered (table' ++ drop (n * n) table) (Ok (n * n))
      unfolding routes_answer after_routes
      fills h is =
          let none : routes_refusal file routes (length table) ≡ refusal 0 0 =
          by_routes ∙ rw (eq-eqb read.refusal.number 0 are.none, ← are.count, le-ltb (length table) (n * n) h) refl in
          let a = accepted_as file accepted in
          (rw (none, a.1, ← are.count) refl, rw (none, a.1, ← are.count, is) refl)

-- The ways out of the operation.
pub ruleset ways_out = (err_from_is_err_and, refuses_file, refuses_routes, refuses_short, fills)
