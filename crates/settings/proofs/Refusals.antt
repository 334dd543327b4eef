-- A settings question, and every call that is refused as it is: refused by the file or by the call, or granted.
use Rattle.std.proofs.Common.{◌≡◌, sym, ap, ◌∙◌, List, Ok, Err, ℕ, ◌≤◌, arith}
use Rattle.std.specs.Prelude.{⊤}
use lib.Dec.{ltb}
use borrow.Author.Tests.{ltb-false}
use Rattle.meaning.specs.declared.Refusal.{Refusal}
use Rattle.meaning.specs.declared.Situation.{Situation}
use Rattle.meaning.specs.Station.{file_states}
use Rattle.meaning.specs.Settings.{open_count}
use Rattle.meaning.specs.File.{reading_answer, unless_refused}
use Rattle.meaning.specs.Operations.{call_refusal, settings_refusal}
use Rattle.meaning.proofs.Opens.{fewer_open}
use Rattle.meaning.proofs.Refused.{ok_of, err_of, accepted_as, refused_as}
use Rattle.element_states.proofs.Calls.{first_file, first_call, not_called}

-- The call for the settings of a situation, with a buffer of this length.
module _ (s : Situation) (room : ℕ) where
  abbrev pub call : Refusal
  call = call_refusal s 11 13 (ltb room s.header.elements)

  -- It is granted.
  abbrev pub Granted : Type 0
  Granted = unless_refused {T = ⊤} call tt ≡ Ok tt

  none : Granted → (call_refusal s 11 13 (ltb room s.header.elements)).number ≡ 0
  none g = (ok_of call tt g).0

  -- At most twelve elements are open.
  pub few : Granted → open_count (file_states s) ≤ 12
  few g = omega (arith, fewer_open 13 (file_states s) (omega arith) (not_called s 11 13 _ (λ z. omega arith) (none g)).0)

  -- The buffer has a byte for each element.
  pub enough : Granted → s.header.elements ≤ room
  enough g = ltb-false room s.header.elements (not_called s 11 13 _ (λ z. omega arith) (none g)).1

-- ---- the same, said of the file
-- It is refused with q.
abbrev pub IsRefused : List ℕ → ℕ → Refusal → Type 0
IsRefused file room q = (q ≡ settings_refusal file room) × (q.number ≡ 0 → ⊥)

module _ (file : List ℕ) (room : ℕ) where
  pub refused_file : {q : Refusal} → reading_answer file ≡ Err q → IsRefused file room q
  unfolding settings_refusal
  refused_file h =
      let f = refused_as file h in
      (sym f.1 ∙ first_file _ _ f.0, λ z. f.0 (ap (λ (x : Refusal). x.number) f.1 ∙ z))

  module _ {s : Situation} (h : reading_answer file ≡ Ok s) where
    pub is_call : call s room ≡ settings_refusal file room
    unfolding settings_refusal
    is_call = let a = accepted_as file h in rw (← a.1) (first_call _ _ a.0)

    pub refused_call : {q : Refusal} → unless_refused {T = ⊤} (call s room) tt ≡ Err q → IsRefused file room q
    refused_call e = let c = err_of (call s room) tt e in (sym c.1 ∙ is_call, λ z. c.0 (ap (λ (x : Refusal). x.number) c.1 ∙ z))

    pub granted : Granted s room → (settings_refusal file room).number ≡ 0
    granted g = sym (ap (λ (x : Refusal). x.number) is_call) ∙ none s room g
