-- The statements say neither less nor more than the definitions that the contracts cite: an outcome meets them exactly when it is the one that the
-- definitions give. So `answer` and `after` of a function follow from its statements, and these from `answer` and `after`.
use mathlib.Core.Path.{◌≡◌, refl, sym, subst}
use mathlib.Core.Logic.{◌↔◌}
use mathlib.Core.Bool.{cond}
use mathlib.Core.List.{List}
use Prim.Native.Nat.{ℕ, ◌^◌, ◌<◌}
use lib.ListN.{length, take}
use Rattle.meaning.specs.declared.Letter.{Letter}
use Rattle.session_meaning.specs.declared.Mark.{Mark}
use Rattle.session_meaning.specs.declared.Desk.{Desk}
use Rattle.meaning.specs.File.{reading, writing_answer, after_writing}
use Rattle.meaning.specs.Operations.{settings_refusal, settings_answer, after_settings, after_frame}
use Rattle.meaning.specs.Drawing.{drawing_answer}
use Rattle.file_meaning.specs.Converter.{conversion_answer, after_conversion}
use Rattle.meaning.specs.CanBeSafe.{can_be_safe_answer}
use Rattle.route_meaning.specs.Routes.{routes_answer, after_routes}
use Rattle.session_meaning.specs.Answers.{standing_answer, after_standing}
use Rattle.session_meaning.specs.Report.{report_answer, after_report}
use Rattle.session_meaning.specs.Desk.{start_answer, written, write_answer, read_answer, interrupt_of}
use Rattle.session_meaning.specs.Placement.{placement_answer, after_placement}
use Rattle.c_layout.specs.declared.FlatRefusal.{FlatRefusal}
use Rattle.c_layout.specs.declared.FlatSituation.{FlatSituation}
use Rattle.c_layout.specs.declared.FlatReading.{FlatReading}
use Rattle.c_layout.specs.declared.FlatReply.{FlatReply}
use Rattle.c_layout.specs.declared.FlatOutput.{FlatOutput}
use Rattle.c_layout.specs.declared.FlatPart.{FlatPart}
use Rattle.c_layout.specs.declared.FlatYesNo.{FlatYesNo}
use Rattle.c_layout.specs.declared.FlatFilled.{FlatFilled}
use Rattle.c_layout.specs.declared.FlatPlaced.{FlatPlaced}
use Rattle.c_layout.specs.declared.FlatDeskAnswer.{FlatDeskAnswer}
use Rattle.c_layout.specs.declared.FlatDeskByte.{FlatDeskByte}
use Rattle.c_layout.specs.Flat.{flat_refusal, flat_reading, situation_from_c, flat_reply, flat_output, flat_yes_no, flat_filled, flat_start, flat_desk, flat_desk_byte, flat_placed, flat_shorter}
use Rattle.demands.specs.Demand1.{Demand1Read, Demand1Write}
use Rattle.demands.specs.OfSettings.{SettingsStatement}
use Rattle.demands.specs.Others.{DemandShorter}
use Rattle.demands.specs.Item01.{Item1}
use Rattle.demands.specs.Item05.{Item5}
use Rattle.demands.specs.Item06.{Item6}
use Rattle.demands.specs.Item07.{Item7}
use Rattle.demands.specs.Item08.{Item8}
use Rattle.demands.specs.Item09.{Item9}
use Rattle.demands.specs.Item10.{Item10Start, Item10Write, Item10Read, Item10Interrupt}
use Rattle.demands.specs.Item11.{Item11}
use Rattle.demands.specs.Item14.{Item14}
use Rattle.demands.specs.Complete.{Pins}
use Rattle.demands.proofs.Demand1.{demand_1_read, demand_1_settings, demand_1_write}
use Rattle.demands.proofs.Others.{demand_shorter}
use Rattle.demands.proofs.Item01.{item_1}
use Rattle.demands.proofs.Item05.{item_5}
use Rattle.demands.proofs.Item06.{item_6}
use Rattle.demands.proofs.Item07.{item_7}
use Rattle.demands.proofs.Item08.{item_8}
use Rattle.demands.proofs.Item09.{item_9}
use Rattle.demands.proofs.Item10.{item_10_start, item_10_write, item_10_read, item_10_interrupt}
use Rattle.demands.proofs.Item11.{item_11}
use Rattle.demands.proofs.Item14.{item_14}
use Rattle.demands.proofs.Complete.{read_pinned, write_pinned, shorter_pinned, settings_pinned}
use Rattle.demands.proofs.CompleteItems.{drawing_pinned, conversion_pinned, desk_start_pinned, desk_write_pinned, desk_read_pinned, desk_interrupt_pinned, frame_pinned}
use Rattle.demands.proofs.CompleteTables.{can_be_safe_pinned, routes_pinned, standing_pinned, report_pinned, place_pinned}

-- Where there is at most one outcome and this is one, the others are this one.
exactly : {Outcome : Type 0} (Asked : Outcome → Type 0) → Pins Asked → (given : Outcome) → Asked given → (a : Outcome) → Asked a ↔ (a ≡ given)
exactly Asked pins given h a = (λ k. pins a given k h, λ e. subst Asked (sym e) h)

-- An answer with the memory that it leaves.
abbrev Both : {A B : Type 0} → A → B → A → B → Type 0
Both {A} {B} a b c d = ◌≡◌ {A = A × B} (a, b) (c, d)

pub read_exactly : (file : List ℕ) (r : FlatReading) → Demand1Read file r ↔ (r ≡ flat_reading (reading file))
read_exactly file = exactly (λ (r : FlatReading). Demand1Read file r) (read_pinned file) _ (demand_1_read file _ refl)

pub write_exactly : (values : FlatSituation) (buffer left : List ℕ) (r : FlatOutput)
    → Demand1Write values buffer left r
    ↔ Both r left (flat_output (writing_answer (situation_from_c values) (length buffer))) (after_writing (situation_from_c values) buffer)
write_exactly values buffer left r =
    exactly {Outcome = FlatOutput × List ℕ} (λ (r, left). Demand1Write values buffer left r) (write_pinned values buffer) (_, _)
    (demand_1_write values buffer _ _ refl refl) (r, left)

pub settings_exactly : (file buffer left : List ℕ) (r : FlatReply)
    → SettingsStatement file buffer left r ↔ Both r left (flat_reply (settings_answer file (length buffer))) (after_settings file buffer)
settings_exactly file buffer left r =
    exactly {Outcome = FlatReply × List ℕ} (λ (r, left). SettingsStatement file buffer left r) (settings_pinned file buffer) (_, _)
    (demand_1_settings file buffer _ _ refl refl) (r, left)

pub shorter_exactly : (first : List ℕ) (n : ℕ) (second : List ℕ) (m : ℕ) (r : FlatPart)
    → DemandShorter first n second m r ↔ (r ≡ flat_shorter (take n first) (take m second))
shorter_exactly first n second m =
    exactly (λ (r : FlatPart). DemandShorter first n second m r) (shorter_pinned first n second m) _ (demand_shorter first n second m _ refl)

pub drawing_exactly : (file : List ℕ) (i j : ℕ) (first second : List ℕ) (r : FlatYesNo)
    → Item1 file i j first second r ↔ (r ≡ flat_yes_no (drawing_answer file i j first second))
drawing_exactly file i j first second =
    exactly (λ (r : FlatYesNo). Item1 file i j first second r) (drawing_pinned file i j first second) _ (item_1 file i j first second _ refl)

pub conversion_exactly : (x : Letter) (file buffer left : List ℕ) (r : FlatFilled)
    → Item5 x file buffer left r ↔ Both r left (flat_filled (conversion_answer x file (length buffer))) (after_conversion x file buffer)
conversion_exactly x file buffer left r =
    exactly {Outcome = FlatFilled × List ℕ} (λ (r, left). Item5 x file buffer left r) (conversion_pinned x file buffer) (_, _)
    (item_5 x file buffer _ _ refl refl) (r, left)

pub can_be_safe_exactly : (file : List ℕ) (r : FlatYesNo) → Item6 file r ↔ (r ≡ flat_yes_no (can_be_safe_answer file))
can_be_safe_exactly file = exactly (λ (r : FlatYesNo). Item6 file r) (can_be_safe_pinned file) _ (item_6 file _ refl)

pub routes_exactly : (station file table left : List ℕ) (r : FlatFilled)
    → Item7 station file table left r ↔ Both r left (flat_filled (routes_answer station file (length table))) (after_routes station file table)
routes_exactly station file table left r =
    exactly {Outcome = FlatFilled × List ℕ} (λ (r, left). Item7 station file table left r) (routes_pinned station file table) (_, _)
    (item_7 station file table _ _ refl refl) (r, left)

pub standing_exactly : (log buffer left : List ℕ) (r : FlatFilled)
    → Item8 log buffer left r ↔ Both r left (flat_filled (standing_answer log (length buffer))) (after_standing log buffer)
standing_exactly log buffer left r =
    exactly {Outcome = FlatFilled × List ℕ} (λ (r, left). Item8 log buffer left r) (standing_pinned log buffer) (_, _)
    (item_8 log buffer _ _ refl refl) (r, left)

pub report_exactly : (marks : List Mark) (buffer left : List ℕ) (r : FlatFilled)
    → Item9 marks buffer left r ↔ Both r left (flat_filled (report_answer marks (length buffer))) (after_report marks buffer)
report_exactly marks buffer left r =
    exactly {Outcome = FlatFilled × List ℕ} (λ (r, left). Item9 marks buffer left r) (report_pinned marks buffer) (_, _)
    (item_9 marks buffer _ _ refl refl) (r, left)

pub desk_start_exactly : (file : List ℕ) (r : FlatDeskAnswer) → Item10Start file r ↔ (r ≡ flat_start (start_answer (reading file)))
desk_start_exactly file = exactly (λ (r : FlatDeskAnswer). Item10Start file r) (desk_start_pinned file) _ (item_10_start file _ refl)

pub desk_write_exactly : (d : Desk) (address byte : ℕ) (r : FlatDeskAnswer) → Item10Write d address byte r ↔ (r ≡ flat_desk (write_answer address) (written d address byte))
desk_write_exactly d address byte =
    exactly (λ (r : FlatDeskAnswer). Item10Write d address byte r) (desk_write_pinned d address byte) _ (item_10_write d address byte _ refl)

pub desk_read_exactly : (d : Desk) (address : ℕ) (r : FlatDeskByte) → Item10Read d address r ↔ (r ≡ flat_desk_byte (read_answer d address))
desk_read_exactly d address = exactly (λ (r : FlatDeskByte). Item10Read d address r) (desk_read_pinned d address) _ (item_10_read d address _ refl)

pub desk_interrupt_exactly : (d : Desk) (r : ℕ) → Item10Interrupt d r ↔ (r ≡ cond (interrupt_of d) 1 0)
desk_interrupt_exactly d = exactly (λ (r : ℕ). Item10Interrupt d r) (desk_interrupt_pinned d) _ (item_10_interrupt d _ refl)

pub frame_exactly : (file : List ℕ) (n : ℕ) (buffer left : List ℕ) (q : FlatRefusal)
    → Item11 file n buffer left q ↔ Both q left (flat_refusal (settings_refusal file (length buffer))) (after_frame file n buffer)
frame_exactly file n buffer left q =
    exactly {Outcome = FlatRefusal × List ℕ} (λ (q, left). Item11 file n buffer left q) (frame_pinned file n buffer) (_, _)
    (item_11 file n buffer _ _ refl refl) (q, left)

pub place_exactly : (paper sections trains : ℕ) (list left : List ℕ) (r : FlatPlaced) → paper < 2 ^ 64
    → Item14 paper sections trains list left r
    ↔ Both r left (flat_placed (placement_answer paper sections trains (length list))) (after_placement paper sections trains list)
place_exactly paper sections trains list left r fits =
    exactly {Outcome = FlatPlaced × List ℕ} (λ (r, left). Item14 paper sections trains list left r) (place_pinned paper sections trains list) (_, _)
    (item_14 paper sections trains list _ _ fits refl refl) (r, left)
