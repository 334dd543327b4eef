-- The sentences of specs/Laws follow from the statements.
use mathlib.Core.Path.{◌≡◌, refl, sym, ap, subst, ◌∙◌}
use mathlib.Core.Bool.{true}
use mathlib.Core.List.{List, [], ◌∷◌, ◌++◌}
use Prim.Native.Nat.{ℕ, zero, suc, ◌/◌, ◌≤◌}
use native.Mathlib.Omega.{arith}
use lib.ListN.{length}
use Rattle.meaning.specs.declared.Line.{Line}
use Rattle.meaning.specs.Station.{standing, has_pair}
use Rattle.meaning.specs.declared.Situation.{Situation}
use Rattle.meaning.specs.File.{line_count, situation_of, pairs_of, reading}
use Rattle.file_meaning.proofs.PastCounts.{same_written}
use Rattle.c_layout.specs.declared.FlatRefusal.{FlatRefusal}
use Rattle.c_layout.specs.declared.FlatFilled.{FlatFilled}
use Rattle.c_layout.specs.declared.FlatOutput.{FlatOutput}
use Rattle.meaning.specs.Digits.{output_of}
use Rattle.meaning.specs.File.{unless_refused}
use Rattle.c_layout.specs.Flat.{flat_reading, flat_output, situation_from_c}
use Rattle.meaning.specs.Accepted.{OldForm, file_header, body_line}
use Rattle.meaning.proofs.Accepted.{accepted_exactly, accepted_situation}
use Rattle.file_meaning.proofs.OldForm.{before_exactly, read_as_before}
use Rattle.basics.specs.Lists.{In}
use Rattle.demands.specs.Words.{situation, Filled}
use Rattle.demands.specs.Reach.{Steps, Leads}
use Rattle.demands.specs.Demand1.{Answer, fails, holds, Short, lines_to, FileCause, CallCause, WriteCause, requested, refused}
use Rattle.meaning.specs.Columns.{row_text}
use Rattle.session_meaning.specs.Report.{Total, totals, totals_text, sum_of}
use Rattle.demands.specs.Item06.{CanBeSafeCause}
use Rattle.demands.specs.Item09.{MarksCause}
use Rattle.demands.specs.Laws.{OneOfEleven, Refusals, SameMoves, SamePaths, SameDanger, TrainsFromOne, ReachIsUnion, OneTrainIsSafe, AlreadyDangerous, SafeNoneMeet, CountsOfVerdict, ClashingLines, NoneClash, ReadBefore, KeepsOldForm, OneOldForm, PaddedToo, OwnBytes, LongEnoughForKey, PastCountsIgnored, OwnPathsYes, SomeYes, ThirteenExactly, FullAgrees, ElevenExactly, TLines, TwoForNoLine, Entered, EachEntered, SumsFit, EmptyReport, OneWalk, WalksOneLever, FullPeriod, PlacedApart, NoneToPlace, KeyLegible, PartsAddUp}
use Rattle.demands.proofs.Reach.{agreed, leads_same, meet, train_from_1, one_train}
use Rattle.demands.proofs.OneText.{one_old_text}
use Rattle.demands.proofs.Complete.{read_pinned, already}
use Rattle.demands.proofs.Demand1.{demand_1_read, demand_1_write}
use Rattle.demands.proofs.Exactly.{write_exactly, conversion_exactly}
use Rattle.demands.proofs.Item01.{own_paths, some_yes}
use Rattle.demands.proofs.Item02.{t_lines, two_for_such}
use Rattle.demands.specs.ThereAndBack.{ThereAndBack}
use Rattle.demands.proofs.Item05.{thirteen, comes_out_of}
use Rattle.demands.proofs.Item09.{are_lines, entered, most_gained, most_possible}
use Rattle.demands.proofs.CompleteTables.{lines_one}
use Rattle.demands.proofs.Item11.{one_walk, walks_one_lever}
use Rattle.demands.proofs.Item14.{full_periods, placed_apart, none_to_place}
use Rattle.demands.proofs.Item06.{agreeing}
use Rattle.demands.proofs.Keys.{is_key}
use Rattle.demands.proofs.KeyExactly.{key_text}
use Rattle.demands.proofs.Item12.{item_12}
use Rattle.demands.proofs.Words.{few_states}

-- ---- the definitions of document 01
pub same_moves : SameMoves
same_moves s σ a b = agreed a b s σ

pub same_paths : SamePaths
same_paths s σ t k p = leads_same s σ t k p

pub same_danger : SameDanger
same_danger s σ m = meet s σ m

-- ---- trains and reaches
pub trains_from_one : TrainsFromOne
trains_from_one s σ t k e = train_from_1 s σ t k e

pub reach_is_union : ReachIsUnion
reach_is_union s σ t k = (λ e. there e.0 e.1, λ w. (w.0 ∷ w.2.0, (w.1, w.2.1)))
  where
    there : (p : List ℕ) → Leads s σ t k p → (a : ℕ) × In a (standing s t) × ((q : List ℕ) × Steps s σ a q k)
    there [] h = absurd h
    there (a ∷ p) h = (a, h.0, (p, h.1))

pub one_train_is_safe : OneTrainIsSafe
one_train_is_safe s σ few m = one_train s σ few m

-- ---- the verdict
pub already_dangerous : AlreadyDangerous
already_dangerous s σ i j k n = already n

pub safe_none_meet : SafeNoneMeet
safe_none_meet s σ first second first' second' r v z m = grind (arith, v.dangerous_exactly.1 m)

pub counts_of_verdict : CountsOfVerdict
counts_of_verdict s σ first second first' second' r v = grind (arith, v.answer)

-- ---- refusals
file_refusal : (file : List ℕ) (q : FlatRefusal) → FileCause file q → (q.number ≤ 8) × (q.line ≤ length file / 22)
file_refusal file q c = grind arith

own_header : (file : List ℕ) → (situation file).header ≡ file_header file
unfolding situation situation_of
own_header file = refl

call_refusal : (file : List ℕ) (number m : ℕ) (TooShort : Type 0) (q : FlatRefusal) → number ≤ 11 → CallCause file number m (Short TooShort) q
    → (q.number ≤ 11) × (q.line ≤ length file / 22)
call_refusal file number m TooShort q few c = grind (arith, file_refusal file q, own_header file, few_states (situation file))

of_call : (file : List ℕ) (number m : ℕ) (TooShort Requested Unchanged : Type 0) (q : FlatRefusal)
    → Answer q Requested (CallCause file number m (Short TooShort) q) Unchanged → number ≤ 11 → 1 ≤ q.number → OneOfEleven (length file / 22) q
of_call file number m TooShort Requested Unchanged q (requested z w) few n = grind (arith, z)
of_call file number m TooShort Requested Unchanged q (refused k c u) few n = let b = call_refusal file number m TooShort q few c in (n, b.0, b.1)

turnout_refusal : (file : List ℕ) (q : FlatRefusal) → CanBeSafeCause file q → (q.number ≤ 11) × (q.line ≤ length file / 22)
turnout_refusal file q c = grind (arith, file_refusal file q, own_header file, few_states (situation file))

write_refusal_lem : (s : Situation) (room : ℕ) (q : FlatRefusal) → WriteCause s room q → (q.number ≤ 11) × (q.line ≤ line_count s.header)
write_refusal_lem s room q c = grind arith

pub refusals : Refusals
refusals = record {
  read = λ file r d n. grind (arith, file_refusal file r.refusal);
  write = λ values buffer buffer' r d n. grind (arith, write_refusal_lem (situation_from_c values) (length buffer) r.refusal);
  verdict = λ file first second first' second' r d n. of_call file 10 0 _ _ _ r.refusal d (omega arith) n;
  settings = λ file buffer buffer' r d n. of_call file 11 12 _ _ _ r.refusal d (omega arith) n;
  key = λ file buffer buffer' r d n. grind arith;
  can_be_safe = λ file r d n. grind (arith, turnout_refusal file r.refusal);
  desk_start = λ file r d n. grind (arith, file_refusal file r.refusal);
  frame = λ file n buffer buffer' q d k. of_call file 11 12 _ _ _ q d (omega arith) k;
}

-- ---- the reader
-- A line that stands over a pair is P, L or D.
over_a_pair : (l : Line) (a b : ℕ) → has_pair (pairs_of l) a b ≡ true → (1 ≤ l.kind) × (l.kind ≤ 3)
unfolding pairs_of
over_a_pair l a b h = grind arith

pub clashing_lines : ClashingLines
clashing_lines earlier l c = grind (arith, over_a_pair c.0 c.3 c.4 c.5, over_a_pair l c.3 c.4 c.6)

-- An earlier line of the file, by its number.
earlier_line : (lines : ℕ → Line) (j : ℕ) (l : Line) → In l (lines_to lines j) → (i : ℕ) × (1 ≤ i) × (i ≤ j) × (l ≡ lines i)
earlier_line lines zero l i = absurd i
earlier_line lines (suc j) l i = grind (arith, earlier_line lines j l)

pub none_clash : NoneClash
none_clash file a j body c = grind (arith, earlier_line (body_line file) j c.0 c.1)

pub read_before : ReadBefore
unfolding flat_reading
read_before file = (
  λ r d e.
      let a = read_pinned file r (flat_reading (reading file)) d (demand_1_read file _ refl) in
      (rw (a, accepted_situation file ((before_exactly file).0 e).0), a ∙ ap flat_reading (read_as_before file e)),
  grind (arith, accepted_exactly file, before_exactly file),
)

-- ---- the key
pub long_enough_for_key : LongEnoughForKey
long_enough_for_key file buffer buffer' r d room = grind arith

pub key_legible : KeyLegible
key_legible file text k = (is_key file text (key_text file text k)).1

-- ---- the writer
pub past_counts_ignored : PastCountsIgnored
past_counts_ignored values other buffer buffer' r e d =
    let w = same_written (situation_from_c values) (situation_from_c other) (sym e) buffer in
    let a = (write_exactly values buffer buffer' r).0 d in
    demand_1_write other buffer buffer' r
    (ap (λ (x : FlatOutput × List ℕ). x.0) a ∙ λ i. flat_output (unless_refused (w.0 i) (output_of (w.2 i)))) (ap (λ (x : FlatOutput × List ℕ). x.1) a ∙ w.1)

pub keeps_old_form : KeepsOldForm
keeps_old_form values buffer buffer' r d z = grind arith

pub one_old_form : OneOldForm
one_old_form file text other w v =
    one_old_text text other w.0 v.0 (v.2 ∙ sym w.2) w.1 v.1

pub padded_too : PaddedToo
padded_too values buffer buffer' q d file text a e room old =
    let w = d.met file a e room in
    (w.0, subst (λ (t : List ℕ). Filled t buffer buffer') (one_old_form file text w.1.0 old w.1.1) w.1.2)

pub own_bytes : OwnBytes
own_bytes file text a w = (λ e. subst (λ (t : List ℕ). OldForm t) e w.1, λ o. one_old_text file text a w.0 w.2 o w.1)

-- ---- Items 1, 2, 5 and 6 of 02
pub trains_of_lines : TLines
trains_of_lines = t_lines

pub two_for_no_line : TwoForNoLine
two_for_no_line values buffer buffer' r d =
    let a = (write_exactly values buffer buffer' r).0 d in
    two_for_such values buffer buffer' r (ap (λ (x : FlatOutput × List ℕ). x.0) a) (ap (λ (x : FlatOutput × List ℕ). x.1) a) d

pub own_paths_yes : OwnPathsYes
own_paths_yes = own_paths

pub some_right_yes : SomeYes
some_right_yes = some_yes

pub thirteen_exactly : ThirteenExactly
thirteen_exactly x file buffer buffer' r w a = thirteen x file buffer buffer' r w a

pub there_and_back : ThereAndBack
there_and_back x file buffer buffer' r w e =
    let h = (conversion_exactly x file buffer buffer' r).0 w in
    let answer = ap (λ (y : FlatFilled × List ℕ). y.0) h in
    let left = ap (λ (y : FlatFilled × List ℕ). y.1) h in
    rw left (comes_out_of x file buffer (rw answer at e))

pub parts_add_up : PartsAddUp
parts_add_up = item_12

pub full_agrees : FullAgrees
full_agrees = agreeing

below_11 : (file : List ℕ) (q : FlatRefusal) → FileCause file q → q.number ≡ 11 → ⊥
below_11 file q c e = grind arith

pub eleven_exactly : ElevenExactly
eleven_exactly file r (requested z (a, few, y)) = (λ e. absurd (omega (arith, e, ap (λ (q : FlatRefusal). q.number) z)), λ w. absurd (omega (arith, few, w.1)))
eleven_exactly file r (refused n (fails b c) u) = (λ e. absurd (below_11 file r.refusal c e), λ w. absurd (b w.0))
eleven_exactly file r (refused n (holds a (e, more, t, is)) u) = (λ x. (a, more), λ w. is.0)

-- ---- Item 9
pub each_entered : EachEntered
each_entered marks lines a = subst (Entered marks) (lines_one (are_lines marks) a) (entered marks)

pub sums_fit : SumsFit
sums_fit marks few r = (most_gained marks r few, most_possible marks r few)

pub empty_report : EmptyReport
unfolding totals totals_text sum_of
empty_report buffer buffer' r (requested z w) e =
    subst (λ (l : List Total). Filled (totals_text l ++ row_text 90 2 0 0 0 0) buffer buffer') (lines_one w.are (are_lines [])) w.filled
empty_report buffer buffer' r (refused n c u) e = absurd (refused_9 c (ap (λ (q : FlatRefusal). q.number) e))
  where
    refused_9 : MarksCause [] (length buffer) r.refusal → r.refusal.number ≡ 0 → ⊥
    refused_9 c z = grind arith

-- ---- Items 11 and 14
pub walk_is_one : OneWalk
walk_is_one = one_walk

pub one_lever_at_a_time : WalksOneLever
one_lever_at_a_time = walks_one_lever

pub full_period_of_states : FullPeriod
full_period_of_states = full_periods

pub placed_trains_apart : PlacedApart
placed_trains_apart = placed_apart

pub none_placed : NoneToPlace
none_placed = none_to_place
