use mathlib.Core.Path.{◌≡◌, refl, sym, ap, ◌∙◌}
use mathlib.Core.List.{List}
use Prim.Native.Nat.{ℕ, ◌<◌}
use native.Mathlib.Omega.{arith}
use lib.ListN.{length, get_or, take}
use lib.Seq.{get_or-take}
use borrow.Author.Rules.{rules}
use Rattle.reach.proofs.Sets.{stored_at}
use Rattle.meaning.specs.Station.{no_train}
use Rattle.search.proofs.Laws.{searched_start}
use Rattle.moves.specs.Standing.{places_of}
use Rattle.meeting.specs.Meeting.{Meets}
use Rattle.meeting.proofs.Shared.{meets_part}
use Rattle.verdict.proofs.Trains.{ReachedFrom, standing_at, standing_sections, looks_in, looks_in_lem}
use Rattle.verdict.proofs.Turn.{known_start, known_safe, turn_fits, turn_some, turn_step, turn_first, turn_second, turn_danger}
use Rattle.verdict.proofs.decide.Goals as goal
use Rattle.verdict.proofs.decide.Goals.{After-size-entries, After-unwrap-met, After-total-then-meets}

-- In a turn, after its search and the size of its reach.
module _ (c : After-size-entries) where
  abbrev ws : List ℕ
  ws = c.search_train-found.result.reach.words

  next : c.loop-j.j < c.args.s.now.situation.header.trains
  next = omega (arith, c.from-trains.ensures)

  few : c.loop-j.j < 64
  few = omega (arith, next, c.args.s.now.sound.limits.trains)

  -- The train is that at its place of the array.
  stands : places_of (get_or (take c.from-trains.result c.args.s.now.situation.trains) c.loop-j.j no_train) ≡ standing_at c.args.s.now.situation c.loop-j.j
  stands = ap places_of (get_or-take c.from-trains.result c.args.s.now.situation.trains c.loop-j.j no_train (omega arith))

  from : ReachedFrom c.args.table.now.pairs.rows (places_of (get_or (take c.from-trains.result c.args.s.now.situation.trains) c.loop-j.j no_train)) ws c.size-entries.result
  from = record { members = c.search_train-found.ensures.traced.reached; size = c.size-entries.ensures }

-- The meeting that is found, of the train of the turn with an earlier one.
met : (c : After-unwrap-met)
    → Meets c.loop-j.reaches c.loop-j.j c.search_train-found.result.reach.words c.unwrap-met.result.train.0 c.unwrap-met.result.section.0
met c =
    let found = rw c.unwrap-met.ensures at c.first_meeting.ensures in
    meets_part _ _ _ _ _ (omega (arith, c.loop-j-test.true, c.from-trains.ensures, c.args.s.now.sound.limits.trains)) found.1

-- The looks of the earlier trains, and of the train of the turn.
module _ (c : After-total-then-meets) where
  earlier_looks : c.total.result ≡ looks_in c.args.table.now.pairs.rows c.loop-j.earlier.words
  earlier_looks = c.total.ensures ∙ looks_in_lem _ _ c.args.table.now.counted _

  its_looks : c.total-then-meets.result ≡ looks_in c.args.table.now.pairs.rows c.search_train-found.result.reach.words
  its_looks = c.total-then-meets.ensures ∙ looks_in_lem _ _ c.args.table.now.counted _

pub loop-j-init : goal.loop-j-init
loop-j-init c = (refl, refl, known_start c.args.s.now.sound refl (search rules) c.empty-earlier.ensures)

pub search_train-found-requires : goal.search_train-found-requires
search_train-found-requires c =
    let s = c.args.s.now in
    let few : c.loop-j.j < s.situation.header.trains = omega (arith, c.from-trains.ensures) in
    standing_sections s.situation s.sound c.loop-j.j few _ (ap places_of (get_or-take c.from-trains.result s.situation.trains c.loop-j.j no_train (omega arith)))

pub unwrap-met-requires : goal.unwrap-met-requires
unwrap-met-requires c =
    let t = (goal.at.unwrap-met-requires c).After-size-entries in
    turn_some c.args.s.now.sound c.requires.represents c.loop-j.invariant.2 (next t) (stands t) c.search_train-found.ensures (from t)
    (sym c.meets.ensures ∙ c.if-meets.true) (omega (arith, few t)) _ c.first_meeting.ensures

pub path_to-requires : goal.path_to-requires
path_to-requires c =
    let t = (goal.at.path_to-requires c).After-size-entries in
    let at = c.loop-j.invariant in
    turn_first c.args.s.now.sound c.requires.represents at.2 (next t) (stands t) c.search_train-found.ensures (from t)
    (sym c.meets.ensures ∙ c.if-meets.true) (met (goal.at.path_to-requires c).After-unwrap-met)
    at.0 at.1 c.requires.room.0 c.requires.room.1

pub path_to-requires-then-meets : goal.path_to-requires-then-meets
path_to-requires-then-meets c =
    let t = (goal.at.path_to-requires-then-meets c).After-size-entries in
    let at = c.loop-j.invariant in
    turn_second c.args.s.now.sound c.requires.represents at.2 (next t) (stands t) c.search_train-found.ensures (from t)
    (sym c.meets.ensures ∙ c.if-meets.true) (met (goal.at.path_to-requires-then-meets c).After-unwrap-met)
    at.0 at.1 c.requires.room.0 c.requires.room.1

pub overflow_add-looks : goal.overflow_add-looks
overflow_add-looks c =
    let t = (goal.at.overflow_add-looks c).After-size-entries in
    let small = turn_fits c.args.s.now.sound c.requires.represents c.loop-j.invariant.2 (next t) (stands t) c.search_train-found.ensures (from t) in
    omega (arith, small, earlier_looks c, its_looks c)

pub returns-then-meets : goal.returns-then-meets
returns-then-meets c =
    let t = (goal.at.returns-then-meets c).After-size-entries in
    let at = c.loop-j.invariant in
    turn_danger c.args.s.now.sound c.requires.represents at.2 (next t) (stands t) c.search_train-found.ensures (from t)
    (sym c.meets.ensures ∙ c.if-meets.true) (met (goal.at.returns-then-meets c).After-unwrap-met)
    at.0 at.1 c.requires.room.0 c.requires.room.1
    (earlier_looks c) (its_looks c) c.path_to.ensures c.path_to-then-meets.ensures

pub loop-j-preserved : goal.loop-j-preserved
loop-j-preserved c =
    let t = (goal.at.loop-j-preserved c).After-size-entries in
    let at = c.loop-j.invariant in
    let reaches : length c.loop-j.reaches ≡ 64 = search rules in (
      at.0,
      at.1,
      turn_step c.args.s.now.sound c.requires.represents at.2 (next t) (stands t) c.search_train-found.ensures (from t)
          (sym c.meets.ensures ∙ c.if-meets.false) (stored_at _ _ _ (omega (arith, few t)))
          (searched_start c.search_train-found.ensures c.keep.ensures) c.union-earlier.ensures,
    )

pub returns : goal.returns
returns c =
    let at = c.loop-j in
    known_safe c.args.s.now.sound c.requires.represents at.invariant.2 (omega (arith, c.from-trains.ensures, c.loop-j-test.false))
    (c.total-looks.ensures ∙ looks_in_lem _ _ c.args.table.now.counted _) at.invariant.0 at.invariant.1
