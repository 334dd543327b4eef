-- The statements of the key leave no choice but the shown paths: `key_pinned` (specs/Complete).
use mathlib.Core.Path.{◌≡◌, sym, ◌∙◌}
use mathlib.Core.Logic.{◌⊎◌, inl, inr, ⊎_elim}
use mathlib.Core.List.{List, ◌++◌}
use Prim.Native.Nat.{ℕ}
use native.Mathlib.Omega.{arith}
use lib.ListN.{take}
use Rattle.meaning.specs.declared.Situation.{Situation}
use Rattle.meaning.specs.Station.{file_states}
use Rattle.meaning.specs.Columns.{row_text}
use Rattle.meaning.specs.Key.{path_lines}
use Rattle.c_layout.specs.declared.FlatVerdict.{FlatVerdict}
use Rattle.demands.specs.Demand1.{requested, refused}
use Rattle.demands.specs.Keys.{verdict_text, question_text, VerdictKey, QuestionKey, Key}
use Rattle.demands.specs.Complete.{PathLinesAside, KeyPinned}
use Rattle.demands.proofs.OneCause.{call_cause_one, no_call_cause}
use Rattle.demands.proofs.Complete.{reply_same, BothSame, verdict_same}

-- Two texts are the same, or differ in the shown paths.
abbrev Alike : List ℕ → List ℕ → Type 0
Alike text text' = (text ≡ text') ⊎ PathLinesAside text text'

abbrev safe_row : FlatVerdict → List ℕ
safe_row r = row_text 86 3 0 r.entries r.looks 0

abbrev dangerous_row : FlatVerdict → List ℕ
dangerous_row r = row_text 86 4 1 r.entries r.looks r.meeting

safe_text : (r : FlatVerdict) (f g : List ℕ) → r.dangerous ≡ 0 → verdict_text r f g ≡ safe_row r
unfolding verdict_text
safe_text r f g e = grind arith

dangerous_text : (r : FlatVerdict) (f g : List ℕ) → r.dangerous ≡ 1
    → verdict_text r f g
    ≡ dangerous_row r ++ (path_lines 65 r.first_train (take r.first_length f) ++ path_lines 66 r.second_train (take r.second_length g))
unfolding verdict_text
dangerous_text r f g e = grind arith

module _ (s : Situation) (text text' f g h k f' g' h' k' : List ℕ) (r r' : FlatVerdict) (e : text ≡ verdict_text r f' g') (e' : text' ≡ verdict_text r' h' k') where
  verdict_texts : BothSame s (file_states s) f g h k f' g' h' k' r r' → Alike text text'
  verdict_texts (BothSame.both_safe same a b) = inl (grind (arith, e, e', safe_text r f' g' a.called_safe, safe_text r' h' k' b.called_safe))
  verdict_texts (BothSame.both_dangerous same a b) =
      inr (record {
        line = dangerous_row r;
        first = r.first_train;
        second = r.second_train;
        p = take r.first_length f';
        q = take r.second_length g';
        p' = take r'.first_length h';
        q' = take r'.second_length k';
        printed = e ∙ dangerous_text r f' g' a.called_dangerous;
        printed' = grind (arith, e', dangerous_text r' h' k' b.called_dangerous, same.trains, same.section, same.counts);
      })

verdict_keys : (s : Situation) (text text' : List ℕ) → VerdictKey s text → VerdictKey s text' → Alike text text'
verdict_keys s text text' v w =
    verdict_texts s text text' _ _ _ _ _ _ _ _ v.5 w.5 v.7 w.7
    (verdict_same s _ _ _ _ _ _ _ _ _ v.5 w.5 v.6 w.6)

pub question_keys : (s : Situation) (text text' : List ℕ) → QuestionKey s text → QuestionKey s text' → text ≡ text'
unfolding question_text
question_keys s text text' v w =
    grind (
      arith,
      v.6,
      w.6,
      reply_same s v.2 w.2 v.3 w.3 v.4 w.4 v.5 w.5,
    )

key_one : (file text text' : List ℕ) → Key file text → Key file text' → Alike text text'
key_one file text text' (Key.refused q c e) (Key.refused q' c' e') = inl (grind (arith, call_cause_one file 11 12 (λ p. ⊥) q q' (λ w v. absurd w) c c'))
key_one file text text' (Key.refused q c e) (Key.judged a v) = absurd (no_call_cause file 11 12 (λ p. ⊥) q a (omega (arith, v.0)) (λ x. x) c)
key_one file text text' (Key.refused q c e) (Key.asked a v) = absurd (no_call_cause file 11 12 (λ p. ⊥) q a v.1 (λ x. x) c)
key_one file text text' (Key.judged a v) (Key.refused q c e) = absurd (no_call_cause file 11 12 (λ p. ⊥) q a (omega (arith, v.0)) (λ x. x) c)
key_one file text text' (Key.judged a v) (Key.judged b w) = verdict_keys _ text text' v w
key_one file text text' (Key.judged a v) (Key.asked b w) = absurd (w.0 v.0)
key_one file text text' (Key.asked a v) (Key.refused q c e) = absurd (no_call_cause file 11 12 (λ p. ⊥) q a v.1 (λ x. x) c)
key_one file text text' (Key.asked a v) (Key.judged b w) = absurd (v.0 w.0)
key_one file text text' (Key.asked a v) (Key.asked b w) = inl (question_keys _ text text' v w)

pub key_pinned : KeyPinned
key_pinned file buffer r left r' left' (requested z v) (requested z' w) =
    ⊎_elim
    (λ (e : v.text ≡ w.text). inl (grind (arith, v.handed_back, w.handed_back, v.start, w.start)))
    (λ x. inr (record { refusal = z ∙ sym z'; text = v.text; text' = w.text; aside = x; handed_back = (v.handed_back, w.handed_back); start = (v.start, w.start) }))
    (key_one file v.text w.text v.key w.key)
key_pinned file buffer r left r' left' (requested z v) (refused n c u) = absurd (omega (arith, v.room, c.0))
key_pinned file buffer r left r' left' (refused n c u) (requested z v) = absurd (omega (arith, v.room, c.0))
key_pinned file buffer r left r' left' (refused n c u) (refused n' c' u') = inl (grind arith)
