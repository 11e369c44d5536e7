-- Parts of a call's form are the parts of a call.
use Rattle.std.proofs.Common.{◌≡◌, ℕ, Bool, List, [], ◌∷◌, Option, refl}
use Rattle.gdi_kinds.specs.Calls.{is_whole_call}
use Rattle.gdi_kinds.specs.declared.value.Value.{Value}
use Rattle.gdi_kinds.specs.declared.value.Kind.{Kind}
use Rattle.gdi_kinds.specs.declared.call.Dir.{Dir}
use Rattle.gdi_kinds.specs.declared.constraint.Atom.{Atom}
use Rattle.gdi_kinds.specs.declared.call.Call.{Call}
use Rattle.gdi_kinds.specs.declared.call.Call.TheVariants as call
use Rattle.text_words.specs.Spelling.{kind_text, dir_text, Part, word, number, name, constant, label_parts, scope_part, test_parts, many_parts, HasAtoms}
use Rattle.text_words.specs.Forms.{ends, may_mark, may_label, may_test, then, an_id, a_name, a_value, a_kind, a_dir, a_scope}
use Rattle.text_words.proofs.ShapeLemmas.{HasShape}
use Rattle.script_text.specs.CallLines.{parts_of, test_of}
use Rattle.script_text.specs.declared.verb.Verb.{Verb}
use Rattle.script_text.specs.declared.verb.Verb.TheVariants as verb
use Rattle.script_text.specs.Verbs.{word_of, form_of, is_whole}
use Rattle.script_text.proofs.FaultlessWords.{with_end, with_id, with_name, with_value, with_kind, with_dir, with_scope, with_mark, with_label, with_test}

-- the word and the parts behind it are those of the call
pub record IsCallFrom (v : Verb) (parts : List Part) : Type 0 where
  pub call : Call
  pub is : parts_of call ≡ word (word_of v) ∷ parts
  pub atoms : HasAtoms (test_of call)
  pub whole : is_whole_call call ≡ is_whole v

of_nothing : (P : List Part → Type 0) → P [] → (parts : List Part) → HasShape (ends) parts → P parts
of_nothing P to parts shape = with_end P to parts shape

of_id : (P : List Part → Type 0) → ((a : ℕ) → P (number a ∷ [])) → (parts : List Part) → HasShape (then an_id ends) parts → P parts
of_id P to parts shape = with_id ends P (λ a r0 s0. with_end (λ (x : List Part). P (number a ∷ x)) (to a) r0 s0) parts shape

of_name : (P : List Part → Type 0) → ((a : List ℕ) → P (name a ∷ [])) → (parts : List Part) → HasShape (then a_name ends) parts → P parts
of_name P to parts shape = with_name ends P (λ a r0 s0. with_end (λ (x : List Part). P (name a ∷ x)) (to a) r0 s0) parts shape

of_id_name : (P : List Part → Type 0) → ((a : ℕ) (b : List ℕ) → P (number a ∷ name b ∷ [])) → (parts : List Part) → HasShape (then an_id (then a_name ends)) parts → P parts
of_id_name P to parts shape = with_id (then a_name ends) P (λ a r0 s0. with_name ends (λ (x : List Part). P (number a ∷ x)) (λ b r1 s1. with_end (λ (x : List Part). P (number a ∷ name b ∷ x)) (to a b) r1 s1) r0 s0) parts shape

of_id_name_value : (P : List Part → Type 0) → ((a : ℕ) (b : List ℕ) (c : Value) → P (number a ∷ name b ∷ constant c ∷ [])) → (parts : List Part) → HasShape (then an_id (then a_name (then a_value ends))) parts → P parts
of_id_name_value P to parts shape = with_id (then a_name (then a_value ends)) P (λ a r0 s0. with_name (then a_value ends) (λ (x : List Part). P (number a ∷ x)) (λ b r1 s1. with_value ends (λ (x : List Part). P (number a ∷ name b ∷ x)) (λ c r2 s2. with_end (λ (x : List Part). P (number a ∷ name b ∷ constant c ∷ x)) (to a b c) r2 s2) r1 s1) r0 s0) parts shape

of_id_id : (P : List Part → Type 0) → ((a : ℕ) (b : ℕ) → P (number a ∷ number b ∷ [])) → (parts : List Part) → HasShape (then an_id (then an_id ends)) parts → P parts
of_id_id P to parts shape = with_id (then an_id ends) P (λ a r0 s0. with_id ends (λ (x : List Part). P (number a ∷ x)) (λ b r1 s1. with_end (λ (x : List Part). P (number a ∷ number b ∷ x)) (to a b) r1 s1) r0 s0) parts shape

of_id_id_name : (P : List Part → Type 0) → ((a : ℕ) (b : ℕ) (c : List ℕ) → P (number a ∷ number b ∷ name c ∷ [])) → (parts : List Part) → HasShape (then an_id (then an_id (then a_name ends))) parts → P parts
of_id_id_name P to parts shape = with_id (then an_id (then a_name ends)) P (λ a r0 s0. with_id (then a_name ends) (λ (x : List Part). P (number a ∷ x)) (λ b r1 s1. with_name ends (λ (x : List Part). P (number a ∷ number b ∷ x)) (λ c r2 s2. with_end (λ (x : List Part). P (number a ∷ number b ∷ name c ∷ x)) (to a b c) r2 s2) r1 s1) r0 s0) parts shape

of_id_id_name_value : (P : List Part → Type 0) → ((a : ℕ) (b : ℕ) (c : List ℕ) (d : Value) → P (number a ∷ number b ∷ name c ∷ constant d ∷ [])) → (parts : List Part) → HasShape (then an_id (then an_id (then a_name (then a_value ends)))) parts → P parts
of_id_id_name_value P to parts shape = with_id (then an_id (then a_name (then a_value ends))) P (λ a r0 s0. with_id (then a_name (then a_value ends)) (λ (x : List Part). P (number a ∷ x)) (λ b r1 s1. with_name (then a_value ends) (λ (x : List Part). P (number a ∷ number b ∷ x)) (λ c r2 s2. with_value ends (λ (x : List Part). P (number a ∷ number b ∷ name c ∷ x)) (λ d r3 s3. with_end (λ (x : List Part). P (number a ∷ number b ∷ name c ∷ constant d ∷ x)) (to a b c d) r3 s3) r2 s2) r1 s1) r0 s0) parts shape

of_id_id_label : (P : List Part → Type 0) → ((a : ℕ) (b : ℕ) (c : Option (List ℕ)) → P (number a ∷ number b ∷ label_parts c)) → (parts : List Part) → HasShape (then an_id (then an_id may_label)) parts → P parts
of_id_id_label P to parts shape = with_id (then an_id may_label) P (λ a r0 s0. with_id may_label (λ (x : List Part). P (number a ∷ x)) (λ b r1 s1. with_label (λ (x : List Part). P (number a ∷ number b ∷ x)) (λ c. to a b c) r1 s1) r0 s0) parts shape

of_id_dir : (P : List Part → Type 0) → ((a : ℕ) (b : Dir) → P (number a ∷ word (dir_text b) ∷ [])) → (parts : List Part) → HasShape (then an_id (then a_dir ends)) parts → P parts
of_id_dir P to parts shape = with_id (then a_dir ends) P (λ a r0 s0. with_dir ends (λ (x : List Part). P (number a ∷ x)) (λ b r1 s1. with_end (λ (x : List Part). P (number a ∷ word (dir_text b) ∷ x)) (to a b) r1 s1) r0 s0) parts shape

of_id_dir_test : (P : List Part → Type 0) → ((a : ℕ) (b : Dir) (c : Option (List (List Atom))) → HasAtoms c → P (number a ∷ word (dir_text b) ∷ test_parts c)) → (parts : List Part) → HasShape (then an_id (then a_dir may_test)) parts → P parts
of_id_dir_test P to parts shape = with_id (then a_dir may_test) P (λ a r0 s0. with_dir may_test (λ (x : List Part). P (number a ∷ x)) (λ b r1 s1. with_test (λ (x : List Part). P (number a ∷ word (dir_text b) ∷ x)) (λ c some. to a b c some) r1 s1) r0 s0) parts shape

of_name_kind_mark : (P : List Part → Type 0) → ((a : List ℕ) (b : Kind) (c : Bool) → P (name a ∷ word (kind_text b) ∷ many_parts c)) → (parts : List Part) → HasShape (then a_name (then a_kind may_mark)) parts → P parts
of_name_kind_mark P to parts shape = with_name (then a_kind may_mark) P (λ a r0 s0. with_kind may_mark (λ (x : List Part). P (name a ∷ x)) (λ b r1 s1. with_mark (λ (x : List Part). P (name a ∷ word (kind_text b) ∷ x)) (λ c. to a b c) r1 s1) r0 s0) parts shape

of_name_test : (P : List Part → Type 0) → ((a : List ℕ) (b : Option (List (List Atom))) → HasAtoms b → P (name a ∷ test_parts b)) → (parts : List Part) → HasShape (then a_name may_test) parts → P parts
of_name_test P to parts shape = with_name may_test P (λ a r0 s0. with_test (λ (x : List Part). P (name a ∷ x)) (λ b some. to a b some) r0 s0) parts shape

of_scope_test : (P : List Part → Type 0) → ((a : Option (List ℕ)) (b : Option (List (List Atom))) → HasAtoms b → P (scope_part a ∷ test_parts b)) → (parts : List Part) → HasShape (then a_scope may_test) parts → P parts
of_scope_test P to parts shape = with_scope may_test P (λ a r0 s0. with_test (λ (x : List Part). P (scope_part a ∷ x)) (λ b some. to a b some) r0 s0) parts shape

-- parts of the form of a verb are those of a call of it
pub call_from : (v : Verb) (parts : List Part) → HasShape (form_of v) parts → IsCallFrom v parts
call_from verb.NewLabel parts shape = of_name (IsCallFrom verb.NewLabel) (λ a. record { call = call.NewLabel a; is = refl; atoms = tt; whole = refl }) parts shape
call_from verb.NewType parts shape = of_name_kind_mark (IsCallFrom verb.NewType) (λ a b c. record { call = call.NewType a b c; is = refl; atoms = tt; whole = refl }) parts shape
call_from verb.Vertex parts shape = of_id (IsCallFrom verb.Vertex) (λ a. record { call = call.Vertex a; is = refl; atoms = tt; whole = refl }) parts shape
call_from verb.Has parts shape = of_id (IsCallFrom verb.Has) (λ a. record { call = call.Has a; is = refl; atoms = tt; whole = refl }) parts shape
call_from verb.Drop parts shape = of_id (IsCallFrom verb.Drop) (λ a. record { call = call.DropVertex a; is = refl; atoms = tt; whole = refl }) parts shape
call_from verb.Tag parts shape = of_id_name (IsCallFrom verb.Tag) (λ a b. record { call = call.Tag a b; is = refl; atoms = tt; whole = refl }) parts shape
call_from verb.Untag parts shape = of_id_name (IsCallFrom verb.Untag) (λ a b. record { call = call.Untag a b; is = refl; atoms = tt; whole = refl }) parts shape
call_from verb.Tags parts shape = of_id (IsCallFrom verb.Tags) (λ a. record { call = call.Tags a; is = refl; atoms = tt; whole = refl }) parts shape
call_from verb.Set parts shape = of_id_name_value (IsCallFrom verb.Set) (λ a b c. record { call = call.Set a b c; is = refl; atoms = tt; whole = refl }) parts shape
call_from verb.Add parts shape = of_id_name_value (IsCallFrom verb.Add) (λ a b c. record { call = call.Add a b c; is = refl; atoms = tt; whole = refl }) parts shape
call_from verb.Get parts shape = of_id_name (IsCallFrom verb.Get) (λ a b. record { call = call.Get a b; is = refl; atoms = tt; whole = refl }) parts shape
call_from verb.Unset parts shape = of_id_name (IsCallFrom verb.Unset) (λ a b. record { call = call.Unset a b; is = refl; atoms = tt; whole = refl }) parts shape
call_from verb.Props parts shape = of_id (IsCallFrom verb.Props) (λ a. record { call = call.Props a; is = refl; atoms = tt; whole = refl }) parts shape
call_from verb.Edge parts shape = of_id_id_label (IsCallFrom verb.Edge) (λ a b c. record { call = call.Edge a b c; is = refl; atoms = tt; whole = refl }) parts shape
call_from verb.UEdge parts shape = of_id_id_label (IsCallFrom verb.UEdge) (λ a b c. record { call = call.UEdge a b c; is = refl; atoms = tt; whole = refl }) parts shape
call_from verb.Cut parts shape = of_id_id (IsCallFrom verb.Cut) (λ a b. record { call = call.Cut a b; is = refl; atoms = tt; whole = refl }) parts shape
call_from verb.Target parts shape = of_id_id (IsCallFrom verb.Target) (λ a b. record { call = call.Target a b; is = refl; atoms = tt; whole = refl }) parts shape
call_from verb.ETag parts shape = of_id_id_name (IsCallFrom verb.ETag) (λ a b c. record { call = call.ETag a b c; is = refl; atoms = tt; whole = refl }) parts shape
call_from verb.EUntag parts shape = of_id_id_name (IsCallFrom verb.EUntag) (λ a b c. record { call = call.EUntag a b c; is = refl; atoms = tt; whole = refl }) parts shape
call_from verb.ETags parts shape = of_id_id (IsCallFrom verb.ETags) (λ a b. record { call = call.ETags a b; is = refl; atoms = tt; whole = refl }) parts shape
call_from verb.ESet parts shape = of_id_id_name_value (IsCallFrom verb.ESet) (λ a b c d. record { call = call.ESet a b c d; is = refl; atoms = tt; whole = refl }) parts shape
call_from verb.EAdd parts shape = of_id_id_name_value (IsCallFrom verb.EAdd) (λ a b c d. record { call = call.EAdd a b c d; is = refl; atoms = tt; whole = refl }) parts shape
call_from verb.EGet parts shape = of_id_id_name (IsCallFrom verb.EGet) (λ a b c. record { call = call.EGet a b c; is = refl; atoms = tt; whole = refl }) parts shape
call_from verb.EUnset parts shape = of_id_id_name (IsCallFrom verb.EUnset) (λ a b c. record { call = call.EUnset a b c; is = refl; atoms = tt; whole = refl }) parts shape
call_from verb.EProps parts shape = of_id_id (IsCallFrom verb.EProps) (λ a b. record { call = call.EProps a b; is = refl; atoms = tt; whole = refl }) parts shape
call_from verb.Edges parts shape = of_id_dir_test (IsCallFrom verb.Edges) (λ a b c some. record { call = call.Edges a b c; is = refl; atoms = some; whole = refl }) parts shape
call_from verb.Near parts shape = of_id_dir (IsCallFrom verb.Near) (λ a b. record { call = call.Near a b; is = refl; atoms = tt; whole = refl }) parts shape
call_from verb.Degree parts shape = of_id_dir (IsCallFrom verb.Degree) (λ a b. record { call = call.Degree a b; is = refl; atoms = tt; whole = refl }) parts shape
call_from verb.Find parts shape = of_name_test (IsCallFrom verb.Find) (λ a b some. record { call = call.Find a b; is = refl; atoms = some; whole = refl }) parts shape
call_from verb.Hood parts shape = of_id_id (IsCallFrom verb.Hood) (λ a b. record { call = call.Hood a b; is = refl; atoms = tt; whole = refl }) parts shape
call_from verb.Levels parts shape = of_id (IsCallFrom verb.Levels) (λ a. record { call = call.Levels a; is = refl; atoms = tt; whole = refl }) parts shape
call_from verb.Parts parts shape = of_nothing (IsCallFrom verb.Parts) (record { call = call.Parts; is = refl; atoms = tt; whole = refl }) parts shape
call_from verb.Scan parts shape = of_scope_test (IsCallFrom verb.Scan) (λ a b some. record { call = call.Scan a b; is = refl; atoms = some; whole = refl }) parts shape
call_from verb.Vertices parts shape = of_nothing (IsCallFrom verb.Vertices) (record { call = call.Vertices; is = refl; atoms = tt; whole = refl }) parts shape
call_from verb.Arcs parts shape = of_nothing (IsCallFrom verb.Arcs) (record { call = call.Arcs; is = refl; atoms = tt; whole = refl }) parts shape
