-- The parts one after the other: each starts from what the one before it passed.
use mathlib.Core.Path.{refl}
use native.Mathlib.Omega.{arith}
use Prim.Native.Nat.{◌+◌, ◌-◌}
use mathlib.Core.Path.{◌≡◌}
use Rattle.meaning.specs.File.{situation_of, file_line}
use Rattle.line_checks.proofs.Steps.{passed_start, passed_at, rest_none}
use Rattle.reader.proofs.Steps.{plain_line, element_line, train_line, situation_is}
use Rattle.reader.proofs.Body.read.Goals as goal

pub part-requires : goal.part-requires
part-requires c =
    let s = c.args.self.now in
    let h = s.header in (
      omega arith,
      (
        (record { low = omega arith; within = omega arith }, s.limits.plain),
        (
          plain_line s.file.now h,
          passed_start h (file_line s.file.now h) c.new-seen.ensures,
        ),
      ),
    )

pub part-requires-2 : goal.part-requires-2
part-requires-2 c =
    let s = c.args.self.now in
    let h = s.header in
    let next : 1 - 1 + h.plain ≡ 1 + h.plain - 1 = omega arith in
    rw c.from-first_element.ensures (
      omega arith,
      (
        (record { low = omega arith; within = omega arith }, s.limits.elements),
        (
          (λ j few. element_line s.file.now h j few _ refl),
          passed_at h (file_line s.file.now h) next c.in_ok-plain.ensures.0,
        ),
      ),
    )

pub part-requires-3 : goal.part-requires-3
part-requires-3 c =
    let s = c.args.self.now in
    let h = s.header in
    let next : 1 + h.plain - 1 + h.elements ≡ 1 + h.plain + h.elements - 1 = omega arith in
    rw (c.from-first_element.ensures, c.from.ensures) (
      omega arith,
      (
        (record { low = omega arith; within = omega arith }, s.limits.trains),
        (
          (λ j few. train_line s.file.now h j _ refl),
          passed_at h (file_line s.file.now h) next (rw c.from-first_element.ensures at c.in_ok-elements.ensures.0),
        ),
      ),
    )

pub returns : goal.returns
unfolding situation_of
returns c =
    let h = c.args.self.now.header in
    let lines = file_line c.args.self.now.file.now h in
    let elements = rw c.from-first_element.ensures at c.in_ok-elements.ensures in
    let trains = rw (c.from-first_element.ensures, c.from.ensures) at c.in_ok-trains.ensures in
    let none = rest_none h lines (omega arith) trains.0.rest in
    let same = situation_is h lines _ _ _ c.in_ok-plain.ensures.1 elements.1 trains.1 in
    rw (same, ← none) refl
