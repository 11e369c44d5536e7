-- A call's word, and the words behind it.
use Rattle.std.proofs.Common.{◌≡◌, ℕ, List, ◌∷◌, ap}
use Rattle.gdi_kinds.specs.declared.call.Call.{Call}
use Rattle.script_text.specs.declared.verb.Verb.{Verb}
use Rattle.gdi_kinds.specs.Calls.{is_whole_call}
use Rattle.text_words.specs.Spelling.{Part, word, HasAtoms}
use Rattle.script_text.specs.CallLines.{parts_of, test_of}
use Rattle.text_words.specs.Forms.{AreSpelled}
use Rattle.script_text.specs.Verbs.{IsCallOf, word_of, is_whole}

-- the words of a call are its verb's, and those of its fields
pub call_is : (verb : Verb) (words : List (List ℕ)) (call : Call) (rest : List Part) → AreSpelled words rest → parts_of call ≡ word (word_of verb) ∷ rest → HasAtoms (test_of call) → is_whole_call call ≡ is_whole verb → IsCallOf verb words call
call_is verb words call rest are parts atoms whole = record {
  spelled = rw parts (record { texts = ap (λ (ws : List (List ℕ)). word_of verb ∷ ws) are.texts; fit = (tt, are.fit) });
  atoms = atoms;
  whole = whole;
}
