-- Turn words one after another.
use Rattle.std.proofs.Common.{◌≡◌, ◌≤◌, ◌<◌, ℕ, ◌+◌, List, [], ◌∷◌, ◌++◌, length, drop, get_or, refl, sym, ◌∙◌, append_assoc, Bor, Result, Ok, Err}
use Rattle.std.proofs.lemmas.List.{drop_more, drop_all, append-nil}
use Rattle.bz_script.specs.Words.{texts_of}
use Rattle.bz_script.specs.RunForms.{turn_of, turns_of, then_turns}
use Rattle.bz_script.specs.declared.fault.ScriptRule.{ScriptRule}
use Rattle.bz_script.specs.declared.turn_list.Turn.{Turn}

-- turns, and then those that follow
abbrev pub onto_turns : List Turn → Result (List Turn) ScriptRule → Result (List Turn) ScriptRule
onto_turns turns (Err rule) = Err rule
onto_turns turns (Ok more) = Ok (turns ++ more)

-- the words before a place were read into these turns
pub record AreRead (turns : List Turn) (place : ℕ) (words : List (Bor (List ℕ))) : Type 0 where
  pub so_far : onto_turns turns (turns_of (texts_of (drop place words))) ≡ turns_of (texts_of words)

onto_none : (rest : Result (List Turn) ScriptRule) → onto_turns [] rest ≡ rest
onto_none (Err rule) = refl
onto_none (Ok more) = refl

onto_then : (turns : List Turn) (turn : Turn) (rest : Result (List Turn) ScriptRule) → onto_turns turns (then_turns (Ok turn) rest) ≡ onto_turns (turns ++ turn ∷ []) rest
onto_then turns turn (Err rule) = refl
onto_then turns turn (Ok more) = rw append_assoc refl

-- no word was read
pub none_read : (words : List (Bor (List ℕ))) → AreRead [] 0 words
none_read words = record { so_far = onto_none (turns_of (texts_of words)) }

-- one word more
pub one_more : (turns longer : List Turn) (i : ℕ) (words : List (Bor (List ℕ))) (d : Bor (List ℕ)) (turn : Turn) → i < length words → turn_of (get_or words i d).now ≡ Ok turn
    → longer ≡ turns ++ turn ∷ [] → AreRead turns i words → AreRead longer (i + 1) words
one_more turns longer i words d turn h read added before = record {
  so_far = rw added (sym (onto_then turns turn (turns_of (texts_of (drop (i + 1) words)))) ∙ rw (drop_more words i d h, read) at before.so_far);
}

-- the first fault
pub word_fault : (turns : List Turn) (i : ℕ) (words : List (Bor (List ℕ))) (d : Bor (List ℕ)) (rule : ScriptRule) → i < length words → turn_of (get_or words i d).now ≡ Err rule
    → AreRead turns i words → turns_of (texts_of words) ≡ Err rule
word_fault turns i words d rule h read before = sym (rw (drop_more words i d h, read) at before.so_far)

-- all words
pub all_read : (turns : List Turn) (i : ℕ) (words : List (Bor (List ℕ))) → length words ≤ i → AreRead turns i words → turns_of (texts_of words) ≡ Ok turns
all_read turns i words past before = sym (rw (drop_all i words past, append-nil) at before.so_far)
