-- Each kind has its entry of the table; a line that is not of it is none.
use mathlib.Core.Path.{◌≡◌, refl, sym, ap}
use Prim.Native.Nat.{ℕ}
use Rattle.std.specs.Prelude.{Option, Some, None, IfSome, Result, MatchResult, unwrap_or}
use Rattle.std.specs.Option.{ok_or}
use Rattle.meaning.specs.declared.Cause.{Cause}
use Rattle.meaning.specs.declared.Cause.TheVariants as cause
use Rattle.meaning.specs.declared.Line.{Line}
use Rattle.meaning.specs.Columns.{malformed, no_kind}
use Rattle.meaning.specs.Refusals.{number_of}
use Rattle.route_meaning.specs.Routes.{route_line}
use Rattle.routes.proofs.line_of.Goals as goal
use Rattle.routes.proofs.line_of.Goals.{in-R, in-K, in-W}

-- A line l that is read is of kind k, or none.
of_kind : (o : Option Line) (l : Line) (k : ℕ) → unwrap_or o malformed ≡ l → IfSome o (λ x. x.kind ≡ k) → {r : Result Line Cause} → r ≡ ok_or o cause.RouteLine
    → MatchResult r (λ x. (x ≡ l) × (x.kind ≡ k)) (λ e. (number_of e ≡ 14) × (l.kind ≡ no_kind))
of_kind None l k is kind e = rw e (refl, ap (λ (x : Line). x.kind) (sym is))
of_kind (Some x) l k is kind e = rw e (is, kind)

pub returns : goal.returns
unfolding route_line
returns c = elim c.match-kind.branch [
  | in-R w ↦ rw w.in-R.is (of_kind _ _ 0 (rw (w.in-R.is, w.e-is) at c.row.ensures.line) (rw w.in-R.is at c.row.ensures.kind) c.ok_or.ensures.value)
  | in-K w ↦ rw w.in-K.is (of_kind _ _ 1 (rw (w.in-K.is, w.e-is) at c.row.ensures.line) (rw w.in-K.is at c.row.ensures.kind) c.ok_or.ensures.value)
  | in-W w ↦ rw w.in-W.is (of_kind _ _ 2 (rw (w.in-W.is, w.e-is) at c.row.ensures.line) (rw w.in-W.is at c.row.ensures.kind) c.ok_or.ensures.value)
]
