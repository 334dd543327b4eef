-- What a call for a frame answers and leaves in the buffer: what it held where it is refused (`kept`), and otherwise the frame in front (`written`).
use Rattle.std.proofs.Common.{◌≡◌, sym, ap, ◌∙◌, List, ◌++◌, Ok, Err, ℕ, ◌%◌, ◌^◌, length, drop}
use Rattle.std.specs.Prelude.{Result, ⊤}
use borrow.Author.Tests.{ne_eqb}
use Rattle.meaning.specs.declared.Refusal.{Refusal}
use Rattle.meaning.specs.declared.Situation.{Situation}
use Rattle.meaning.specs.Station.{file_states}
use Rattle.meaning.specs.Settings.{open_count}
use Rattle.meaning.specs.Frames.{halved_xor, frame_at}
use Rattle.meaning.specs.File.{reading_answer, unless_refused}
use Rattle.meaning.specs.Operations.{settings_refusal, after_frame}
use Rattle.meaning.proofs.Frames.{frame_length}
use Rattle.meaning.proofs.Refused.{refused_with, answered_with, accepted_as}
use Rattle.setting_order.specs.Order.{setting_at}
use Rattle.setting_order.proofs.Order.{frame_at_lem}
use Rattle.settings.proofs.Refusals.{IsRefused, Granted, granted}

-- This is the answer, and what the buffer holds after it.
abbrev pub Answers : List ℕ → ℕ → List ℕ → Result ⊤ Refusal → List ℕ → Type 0
Answers file n buffer r after = (r ≡ unless_refused (settings_refusal file (length buffer)) tt) × (after ≡ after_frame file n buffer)

-- The call is refused.
pub kept : (file : List ℕ) (n : ℕ) (buffer : List ℕ) {q : Refusal} → IsRefused file (length buffer) q → Answers file n buffer (Err q) buffer
unfolding after_frame
kept file n buffer {q} r = (rw (← r.0) (refused_with q tt r.1), rw (← r.0, ne_eqb q.number 0 r.1))

-- It is not, and the code writes the setting at the frame's place.
pub written : (file : List ℕ) (n : ℕ) (buffer : List ℕ) {s : Situation} → reading_answer file ≡ Ok s → Granted s (length buffer)
    → {x : ℕ} → x ≡ halved_xor (n % 2 ^ open_count (file_states s))
    → Answers file n buffer (Ok tt) (setting_at (file_states s) x ++ drop (length (file_states s)) buffer)
unfolding after_frame
written file n buffer {s} h g {x} p =
    let fs : List ℕ = file_states s in
    let none = granted file (length buffer) h g in
    let same : setting_at fs x ≡ frame_at fs n = ap (setting_at fs) p ∙ sym (frame_at_lem fs n) in
    (answered_with (settings_refusal file (length buffer)) tt none, rw (none, (accepted_as file h).1, same, frame_length fs n))
