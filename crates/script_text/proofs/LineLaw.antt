-- The line of a step is its own alone, and nothing is wrong with it.
use Rattle.std.proofs.Common.{◌≡◌, ◌≢◌, ℕ, Bool, true, false, cond, List, [], ◌∷◌, ◌++◌, map, drop, get_or, Option, refl, sym, ap, subst, ◌∙◌, inl, inr, arith}
use Rattle.std.specs.List.{flat_map, AllByRecursion}
use Rattle.std.specs.Str.{IsUtf8, bytes_eq}
use Rattle.std.proofs.lemmas.Bool.{false≢true}
use Rattle.std.proofs.lemmas.Str.{IsUtf8-append, IsUtf8-nil}
use Rattle.gdi_kinds.specs.Calls.{is_whole_call}
use Rattle.gdi_kinds.specs.declared.value.Kind.{Kind}
use Rattle.gdi_kinds.specs.declared.constraint.Atom.{Atom}
use Rattle.gdi_kinds.specs.declared.call.Dir.{Dir}
use Rattle.gdi_kinds.specs.declared.call.Call.{Call}
use Rattle.gdi_kinds.specs.declared.call.Call.TheVariants as call
use Rattle.text_words.specs.declared.wrong.Wrong.{Wrong}
use Rattle.text_words.specs.Spelling.{Part, word, text_of, IsPart, many_parts, test_parts, spaced, line_of_parts, HasAtoms}
use Rattle.text_words.specs.Words.{IsLineWord, IsOpening, AreBehind}
use Rattle.text_words.specs.Forms.{IsWrong}
use Rattle.text_words.proofs.PrintLemmas.{Prints}
use Rattle.text_words.proofs.PlainLemmas.{IsPlain, plain_is_utf8, plain_has_no_space, byte_is_utf8}
use Rattle.text_words.proofs.ShapeLemmas.{HasShape, IsGoodWord, shape_same, shape_has_form, shape_is_right, shape_is_good, mark_shape, label_shape, scope_sort, test_shape}
use Rattle.text_words.proofs.SaidLemmas.{number_in, name_in, value_in, kind_in, dir_in, scope_in, label_in, mark_in, test_in, kind_said, dir_said, scope_said, label_said, mark_said, test_said}
use Rattle.text_words.proofs.WordLemmas.{opening_same, behind_same, spaced_word, joined, joined_opening, joined_behind}
use Rattle.script_text.specs.declared.verb.Verb.{Verb}
use Rattle.script_text.specs.declared.verb.Verb.TheVariants as verb
use Rattle.script_text.specs.declared.step.Step.{Step}
use Rattle.script_text.specs.declared.step.Step.TheVariants as step
use Rattle.script_text.specs.declared.step.Head.{Head}
use Rattle.script_text.specs.declared.step.Head.TheVariants as head
use Rattle.script_text.specs.declared.place.Stage.{Stage}
use Rattle.script_text.specs.CallLines.{parts_of, test_of}
use Rattle.script_text.specs.Verbs.{word_of, form_of, is_whole}
use Rattle.script_text.specs.Scripts.{line_of}
use Rattle.script_text.specs.Faults.{head_text, form_behind, may_stand, stands, IsClean, IsStep, DoesStep, IsFault, not_text, no_word, misplaced, ill_quoted, wrong_words}
use Rattle.script_text.proofs.StepLemmas.{section_stands, begin_stands, close_stands, does_stands}
use Rattle.script_text.proofs.PrintedLemmas.{line_prints}

-- ---- calls

abbrev verb_of_call : Call → Verb
verb_of_call (call.NewLabel label) = verb.NewLabel
verb_of_call (call.NewType prop kind many) = verb.NewType
verb_of_call (call.Vertex id) = verb.Vertex
verb_of_call (call.Has id) = verb.Has
verb_of_call (call.DropVertex id) = verb.Drop
verb_of_call (call.Tag id label) = verb.Tag
verb_of_call (call.Untag id label) = verb.Untag
verb_of_call (call.Tags id) = verb.Tags
verb_of_call (call.Set id prop v) = verb.Set
verb_of_call (call.Add id prop v) = verb.Add
verb_of_call (call.Get id prop) = verb.Get
verb_of_call (call.Unset id prop) = verb.Unset
verb_of_call (call.Props id) = verb.Props
verb_of_call (call.Edge source target label) = verb.Edge
verb_of_call (call.UEdge source target label) = verb.UEdge
verb_of_call (call.Cut source ordinal) = verb.Cut
verb_of_call (call.Target source ordinal) = verb.Target
verb_of_call (call.ETag source ordinal label) = verb.ETag
verb_of_call (call.EUntag source ordinal label) = verb.EUntag
verb_of_call (call.ETags source ordinal) = verb.ETags
verb_of_call (call.ESet source ordinal prop v) = verb.ESet
verb_of_call (call.EAdd source ordinal prop v) = verb.EAdd
verb_of_call (call.EGet source ordinal prop) = verb.EGet
verb_of_call (call.EUnset source ordinal prop) = verb.EUnset
verb_of_call (call.EProps source ordinal) = verb.EProps
verb_of_call (call.Edges id dir test) = verb.Edges
verb_of_call (call.Near id dir) = verb.Near
verb_of_call (call.Degree id dir) = verb.Degree
verb_of_call (call.Find label test) = verb.Find
verb_of_call (call.Hood id depth) = verb.Hood
verb_of_call (call.Levels id) = verb.Levels
verb_of_call call.Parts = verb.Parts
verb_of_call (call.Scan label test) = verb.Scan
verb_of_call call.Vertices = verb.Vertices
verb_of_call call.Arcs = verb.Arcs

abbrev at : List Part → ℕ → Part
at ps n = get_or ps n (word [])

-- the call of a verb that parts say
abbrev call_in : Verb → List Part → Call
call_in verb.NewLabel ps = call.NewLabel (name_in (at ps 0))
call_in verb.NewType ps = call.NewType (name_in (at ps 0)) (kind_in (at ps 1)) (mark_in (drop 2 ps))
call_in verb.Vertex ps = call.Vertex (number_in (at ps 0))
call_in verb.Has ps = call.Has (number_in (at ps 0))
call_in verb.Drop ps = call.DropVertex (number_in (at ps 0))
call_in verb.Tag ps = call.Tag (number_in (at ps 0)) (name_in (at ps 1))
call_in verb.Untag ps = call.Untag (number_in (at ps 0)) (name_in (at ps 1))
call_in verb.Tags ps = call.Tags (number_in (at ps 0))
call_in verb.Set ps = call.Set (number_in (at ps 0)) (name_in (at ps 1)) (value_in (at ps 2))
call_in verb.Add ps = call.Add (number_in (at ps 0)) (name_in (at ps 1)) (value_in (at ps 2))
call_in verb.Get ps = call.Get (number_in (at ps 0)) (name_in (at ps 1))
call_in verb.Unset ps = call.Unset (number_in (at ps 0)) (name_in (at ps 1))
call_in verb.Props ps = call.Props (number_in (at ps 0))
call_in verb.Edge ps = call.Edge (number_in (at ps 0)) (number_in (at ps 1)) (label_in (drop 2 ps))
call_in verb.UEdge ps = call.UEdge (number_in (at ps 0)) (number_in (at ps 1)) (label_in (drop 2 ps))
call_in verb.Cut ps = call.Cut (number_in (at ps 0)) (number_in (at ps 1))
call_in verb.Target ps = call.Target (number_in (at ps 0)) (number_in (at ps 1))
call_in verb.ETag ps = call.ETag (number_in (at ps 0)) (number_in (at ps 1)) (name_in (at ps 2))
call_in verb.EUntag ps = call.EUntag (number_in (at ps 0)) (number_in (at ps 1)) (name_in (at ps 2))
call_in verb.ETags ps = call.ETags (number_in (at ps 0)) (number_in (at ps 1))
call_in verb.ESet ps = call.ESet (number_in (at ps 0)) (number_in (at ps 1)) (name_in (at ps 2)) (value_in (at ps 3))
call_in verb.EAdd ps = call.EAdd (number_in (at ps 0)) (number_in (at ps 1)) (name_in (at ps 2)) (value_in (at ps 3))
call_in verb.EGet ps = call.EGet (number_in (at ps 0)) (number_in (at ps 1)) (name_in (at ps 2))
call_in verb.EUnset ps = call.EUnset (number_in (at ps 0)) (number_in (at ps 1)) (name_in (at ps 2))
call_in verb.EProps ps = call.EProps (number_in (at ps 0)) (number_in (at ps 1))
call_in verb.Edges ps = call.Edges (number_in (at ps 0)) (dir_in (at ps 1)) (test_in (drop 2 ps))
call_in verb.Near ps = call.Near (number_in (at ps 0)) (dir_in (at ps 1))
call_in verb.Degree ps = call.Degree (number_in (at ps 0)) (dir_in (at ps 1))
call_in verb.Find ps = call.Find (name_in (at ps 0)) (test_in (drop 1 ps))
call_in verb.Hood ps = call.Hood (number_in (at ps 0)) (number_in (at ps 1))
call_in verb.Levels ps = call.Levels (number_in (at ps 0))
call_in verb.Parts ps = call.Parts
call_in verb.Scan ps = call.Scan (scope_in (at ps 0)) (test_in (drop 1 ps))
call_in verb.Vertices ps = call.Vertices
call_in verb.Arcs ps = call.Arcs

abbrev behind_first : List Part → List Part
behind_first [] = []
behind_first (p ∷ parts) = parts

record IsLineOf (call : Call) (verb : Verb) (rest : List Part) : Type 0 where
  parts : parts_of call ≡ word (word_of verb) ∷ rest
  shape : HasShape (form_of verb) rest
  whole : is_whole_call call ≡ is_whole verb
  said : call_in verb rest ≡ call

call_line : (c : Call) → HasAtoms (test_of c) → IsLineOf c (verb_of_call c) (behind_first (parts_of c))
call_line (call.NewLabel label) has = record { parts = refl; shape = (tt, refl); whole = refl; said = refl }
call_line (call.NewType prop kind many) has = record { parts = refl; shape = (tt, ((kind, refl), mark_shape many)); whole = refl; said = ap (λ (x : Kind). call.NewType prop x (mark_in (many_parts many))) (kind_said kind) ∙ ap (λ (x : Bool). call.NewType prop kind x) (mark_said many) }
call_line (call.Vertex id) has = record { parts = refl; shape = (tt, refl); whole = refl; said = refl }
call_line (call.Has id) has = record { parts = refl; shape = (tt, refl); whole = refl; said = refl }
call_line (call.DropVertex id) has = record { parts = refl; shape = (tt, refl); whole = refl; said = refl }
call_line (call.Tag id label) has = record { parts = refl; shape = (tt, (tt, refl)); whole = refl; said = refl }
call_line (call.Untag id label) has = record { parts = refl; shape = (tt, (tt, refl)); whole = refl; said = refl }
call_line (call.Tags id) has = record { parts = refl; shape = (tt, refl); whole = refl; said = refl }
call_line (call.Set id prop v) has = record { parts = refl; shape = (tt, (tt, (tt, refl))); whole = refl; said = refl }
call_line (call.Add id prop v) has = record { parts = refl; shape = (tt, (tt, (tt, refl))); whole = refl; said = refl }
call_line (call.Get id prop) has = record { parts = refl; shape = (tt, (tt, refl)); whole = refl; said = refl }
call_line (call.Unset id prop) has = record { parts = refl; shape = (tt, (tt, refl)); whole = refl; said = refl }
call_line (call.Props id) has = record { parts = refl; shape = (tt, refl); whole = refl; said = refl }
call_line (call.Edge source target label) has = record { parts = refl; shape = (tt, (tt, label_shape label)); whole = refl; said = ap (λ (x : Option (List ℕ)). call.Edge source target x) (label_said label) }
call_line (call.UEdge source target label) has = record { parts = refl; shape = (tt, (tt, label_shape label)); whole = refl; said = ap (λ (x : Option (List ℕ)). call.UEdge source target x) (label_said label) }
call_line (call.Cut source ordinal) has = record { parts = refl; shape = (tt, (tt, refl)); whole = refl; said = refl }
call_line (call.Target source ordinal) has = record { parts = refl; shape = (tt, (tt, refl)); whole = refl; said = refl }
call_line (call.ETag source ordinal label) has = record { parts = refl; shape = (tt, (tt, (tt, refl))); whole = refl; said = refl }
call_line (call.EUntag source ordinal label) has = record { parts = refl; shape = (tt, (tt, (tt, refl))); whole = refl; said = refl }
call_line (call.ETags source ordinal) has = record { parts = refl; shape = (tt, (tt, refl)); whole = refl; said = refl }
call_line (call.ESet source ordinal prop v) has = record { parts = refl; shape = (tt, (tt, (tt, (tt, refl)))); whole = refl; said = refl }
call_line (call.EAdd source ordinal prop v) has = record { parts = refl; shape = (tt, (tt, (tt, (tt, refl)))); whole = refl; said = refl }
call_line (call.EGet source ordinal prop) has = record { parts = refl; shape = (tt, (tt, (tt, refl))); whole = refl; said = refl }
call_line (call.EUnset source ordinal prop) has = record { parts = refl; shape = (tt, (tt, (tt, refl))); whole = refl; said = refl }
call_line (call.EProps source ordinal) has = record { parts = refl; shape = (tt, (tt, refl)); whole = refl; said = refl }
call_line (call.Edges id dir test) has = record { parts = refl; shape = (tt, ((dir, refl), test_shape test has)); whole = refl; said = ap (λ (x : Dir). call.Edges id x (test_in (test_parts test))) (dir_said dir) ∙ ap (λ (x : Option (List (List Atom))). call.Edges id dir x) (test_said test has) }
call_line (call.Near id dir) has = record { parts = refl; shape = (tt, ((dir, refl), refl)); whole = refl; said = ap (λ (x : Dir). call.Near id x) (dir_said dir) }
call_line (call.Degree id dir) has = record { parts = refl; shape = (tt, ((dir, refl), refl)); whole = refl; said = ap (λ (x : Dir). call.Degree id x) (dir_said dir) }
call_line (call.Find label test) has = record { parts = refl; shape = (tt, test_shape test has); whole = refl; said = ap (λ (x : Option (List (List Atom))). call.Find label x) (test_said test has) }
call_line (call.Hood id depth) has = record { parts = refl; shape = (tt, (tt, refl)); whole = refl; said = refl }
call_line (call.Levels id) has = record { parts = refl; shape = (tt, refl); whole = refl; said = refl }
call_line call.Parts has = record { parts = refl; shape = refl; whole = refl; said = refl }
call_line (call.Scan label test) has = record { parts = refl; shape = (scope_sort label, test_shape test has); whole = refl; said = ap (λ (x : Option (List ℕ)). call.Scan x (test_in (test_parts test))) (scope_said label) ∙ ap (λ (x : Option (List (List Atom))). call.Scan label x) (test_said test has) }
call_line call.Vertices has = record { parts = refl; shape = refl; whole = refl; said = refl }
call_line call.Arcs has = record { parts = refl; shape = refl; whole = refl; said = refl }

-- ---- first words

abbrev all_heads : List Head
all_heads = head.Section ∷ head.Begin false ∷ head.Begin true ∷ head.Close false ∷ head.Close true ∷ head.Does verb.NewLabel ∷ head.Does verb.NewType ∷ head.Does verb.Vertex ∷ head.Does verb.Has ∷ head.Does verb.Drop ∷ head.Does verb.Tag ∷ head.Does verb.Untag ∷ head.Does verb.Tags ∷ head.Does verb.Set ∷ head.Does verb.Add ∷ head.Does verb.Get ∷ head.Does verb.Unset ∷ head.Does verb.Props ∷ head.Does verb.Edge ∷ head.Does verb.UEdge ∷ head.Does verb.Cut ∷ head.Does verb.Target ∷ head.Does verb.ETag ∷ head.Does verb.EUntag ∷ head.Does verb.ETags ∷ head.Does verb.ESet ∷ head.Does verb.EAdd ∷ head.Does verb.EGet ∷ head.Does verb.EUnset ∷ head.Does verb.EProps ∷ head.Does verb.Edges ∷ head.Does verb.Near ∷ head.Does verb.Degree ∷ head.Does verb.Find ∷ head.Does verb.Hood ∷ head.Does verb.Levels ∷ head.Does verb.Parts ∷ head.Does verb.Scan ∷ head.Does verb.Vertices ∷ head.Does verb.Arcs ∷ []

-- the first of some heads that has this text
abbrev head_in : List ℕ → List Head → Head
head_in w [] = head.Section
head_in w (h ∷ heads) = cond (bytes_eq w (head_text h)) h (head_in w heads)

record IsHeadWord (h : Head) : Type 0 where
  found : head_in (head_text h) all_heads ≡ h
  plain : IsPlain (head_text h)

head_word : (h : Head) → IsHeadWord h
head_word head.Section = record { found = refl; plain = refl }
head_word (head.Begin true) = record { found = refl; plain = refl }
head_word (head.Begin false) = record { found = refl; plain = refl }
head_word (head.Close true) = record { found = refl; plain = refl }
head_word (head.Close false) = record { found = refl; plain = refl }
head_word (head.Does verb.NewLabel) = record { found = refl; plain = refl }
head_word (head.Does verb.NewType) = record { found = refl; plain = refl }
head_word (head.Does verb.Vertex) = record { found = refl; plain = refl }
head_word (head.Does verb.Has) = record { found = refl; plain = refl }
head_word (head.Does verb.Drop) = record { found = refl; plain = refl }
head_word (head.Does verb.Tag) = record { found = refl; plain = refl }
head_word (head.Does verb.Untag) = record { found = refl; plain = refl }
head_word (head.Does verb.Tags) = record { found = refl; plain = refl }
head_word (head.Does verb.Set) = record { found = refl; plain = refl }
head_word (head.Does verb.Add) = record { found = refl; plain = refl }
head_word (head.Does verb.Get) = record { found = refl; plain = refl }
head_word (head.Does verb.Unset) = record { found = refl; plain = refl }
head_word (head.Does verb.Props) = record { found = refl; plain = refl }
head_word (head.Does verb.Edge) = record { found = refl; plain = refl }
head_word (head.Does verb.UEdge) = record { found = refl; plain = refl }
head_word (head.Does verb.Cut) = record { found = refl; plain = refl }
head_word (head.Does verb.Target) = record { found = refl; plain = refl }
head_word (head.Does verb.ETag) = record { found = refl; plain = refl }
head_word (head.Does verb.EUntag) = record { found = refl; plain = refl }
head_word (head.Does verb.ETags) = record { found = refl; plain = refl }
head_word (head.Does verb.ESet) = record { found = refl; plain = refl }
head_word (head.Does verb.EAdd) = record { found = refl; plain = refl }
head_word (head.Does verb.EGet) = record { found = refl; plain = refl }
head_word (head.Does verb.EUnset) = record { found = refl; plain = refl }
head_word (head.Does verb.EProps) = record { found = refl; plain = refl }
head_word (head.Does verb.Edges) = record { found = refl; plain = refl }
head_word (head.Does verb.Near) = record { found = refl; plain = refl }
head_word (head.Does verb.Degree) = record { found = refl; plain = refl }
head_word (head.Does verb.Find) = record { found = refl; plain = refl }
head_word (head.Does verb.Hood) = record { found = refl; plain = refl }
head_word (head.Does verb.Levels) = record { found = refl; plain = refl }
head_word (head.Does verb.Parts) = record { found = refl; plain = refl }
head_word (head.Does verb.Scan) = record { found = refl; plain = refl }
head_word (head.Does verb.Vertices) = record { found = refl; plain = refl }
head_word (head.Does verb.Arcs) = record { found = refl; plain = refl }

-- a first word says one thing
pub head_same : (g h : Head) → head_text g ≡ head_text h → g ≡ h
head_same g h same =
    let first = head_word g in
    let second = head_word h in
    sym first.found ∙ ap (λ (w : List ℕ). head_in w all_heads) same ∙ second.found

-- ---- steps

abbrev head_of_step : Step → Head
head_of_step step.Section = head.Section
head_of_step (step.Begin whole) = head.Begin whole
head_of_step (step.Does c) = head.Does (verb_of_call c)
head_of_step (step.Close aborts) = head.Close aborts

abbrev parts_behind : Step → List Part
parts_behind (step.Does c) = behind_first (parts_of c)
parts_behind s = []

abbrev step_in : Head → List Part → Step
step_in head.Section parts = step.Section
step_in (head.Begin whole) parts = step.Begin whole
step_in (head.Does v) parts = step.Does (call_in v parts)
step_in (head.Close aborts) parts = step.Close aborts

abbrev words_behind : Step → List (List ℕ)
words_behind s = map text_of (parts_behind s)

all_behind_first : (parts : List Part) → AllByRecursion IsPart parts → AllByRecursion IsPart (behind_first parts)
all_behind_first [] all = tt
all_behind_first (p ∷ parts) all = all.1

spaced_words : (parts : List Part) → flat_map spaced parts ≡ flat_map spaced_word (map text_of parts)
spaced_words [] = refl
spaced_words (p ∷ parts) = ap (λ (x : List ℕ). 32 ∷ text_of p ++ x) (spaced_words parts)

record IsLineOfStep (s : Step) : Type 0 where
  text : line_of s ≡ head_text (head_of_step s) ++ flat_map spaced_word (words_behind s)
  fit : AllByRecursion IsPart (parts_behind s)
  shape : HasShape (form_behind (head_of_step s)) (parts_behind s)
  said : step_in (head_of_step s) (parts_behind s) ≡ s

step_line : (s : Step) → IsStep s → IsLineOfStep s
step_line step.Section fits = record { text = refl; fit = tt; shape = refl; said = refl }
step_line (step.Begin true) fits = record { text = refl; fit = tt; shape = refl; said = refl }
step_line (step.Begin false) fits = record { text = refl; fit = tt; shape = refl; said = refl }
step_line (step.Does c) fits =
    let of = call_line c fits.atoms in
    let rest : List Part = behind_first (parts_of c) in
    record {
      text = ap line_of_parts of.parts ∙ ap (λ (x : List ℕ). word_of (verb_of_call c) ++ x) (spaced_words rest);
      fit = all_behind_first (parts_of c) fits.parts;
      shape = of.shape;
      said = ap step.Does of.said;
    }
step_line (step.Close true) fits = record { text = refl; fit = tt; shape = refl; said = refl }
step_line (step.Close false) fits = record { text = refl; fit = tt; shape = refl; said = refl }

step_stands : (here : Stage) (s : Step) → IsStep s → stands here s ≡ may_stand here (head_of_step s)
step_stands here step.Section fits = section_stands here
step_stands here (step.Begin whole) fits = begin_stands here whole whole
step_stands here (step.Does c) fits = let of = call_line c fits.atoms in does_stands here c (verb_of_call c) of.whole
step_stands here (step.Close aborts) fits = close_stands here aborts aborts

are_words : (words : List (List ℕ)) → AllByRecursion IsGoodWord words → AllByRecursion IsLineWord words
are_words [] good = tt
are_words (w ∷ words) good = (good.0.is, are_words words good.1)

spaced_utf8 : (words : List (List ℕ)) → AllByRecursion IsGoodWord words → IsUtf8 (flat_map spaced_word words)
spaced_utf8 [] good = IsUtf8-nil
spaced_utf8 (w ∷ words) good = IsUtf8-append (32 ∷ w) (flat_map spaced_word words) (IsUtf8-append (32 ∷ []) w (byte_is_utf8 32 (omega arith)) good.0.utf8) (spaced_utf8 words good.1)

-- what the line of a step consists of
record IsRead (line : List ℕ) (s : Step) : Type 0 where
  clean : IsClean line
  opening : IsOpening line (head_text (head_of_step s)) (joined (words_behind s))
  behind : AreBehind (joined (words_behind s)) (words_behind s)
  of : IsLineOfStep s

line_is_read : (line : List ℕ) (s : Step) → line ≡ line_of s → IsStep s → IsRead line s
line_is_read line s is fits =
    let of = step_line s fits in
    let first = head_word (head_of_step s) in
    let good = shape_is_good (form_behind (head_of_step s)) (parts_behind s) of.shape of.fit in
    let text : line ≡ head_text (head_of_step s) ++ flat_map spaced_word (words_behind s) = is ∙ of.text in
    record {
      clean = (
        subst IsUtf8 (sym text) (IsUtf8-append (head_text (head_of_step s)) _ (plain_is_utf8 (head_text (head_of_step s)) first.plain) (spaced_utf8 (words_behind s) good)),
        subst Prints (sym is) (line_prints s fits),
      );
      opening = subst (λ (l : List ℕ). IsOpening l (head_text (head_of_step s)) (joined (words_behind s))) (sym text)
          (joined_opening (head_text (head_of_step s)) (words_behind s) (plain_has_no_space (head_text (head_of_step s)) first.plain));
      behind = joined_behind (words_behind s) (are_words (words_behind s) good);
      of = of;
    }

-- the head and the words of a line are those of its step
record SameWords (s : Step) (h : Head) (behind : Option (List ℕ)) : Type 0 where
  first : h ≡ head_of_step s
  rest : behind ≡ joined (words_behind s)

same_words : (line : List ℕ) (s : Step) (h : Head) (behind : Option (List ℕ)) → IsRead line s → IsOpening line (head_text h) behind → SameWords s h behind
same_words line s h behind read opening =
    let same = opening_same line (head_text h) (head_text (head_of_step s)) behind (joined (words_behind s)) opening read.opening in
    record { first = head_same h (head_of_step s) same.0; rest = same.1 }

same_list : (line : List ℕ) (s : Step) (h : Head) (behind : Option (List ℕ)) (words : List (List ℕ)) → IsRead line s → IsOpening line (head_text h) behind → AreBehind behind words → words ≡ words_behind s
same_list line s h behind words read opening are =
    let same = same_words line s h behind read opening in
    behind_same (joined (words_behind s)) words (words_behind s) (subst (λ (o : Option (List ℕ)). AreBehind o words) same.rest are) read.behind

not_wrong : (s : Step) (told : Wrong) → IsLineOfStep s → ¬ IsWrong (form_behind (head_of_step s)) (words_behind s) told
not_wrong s told of (inl wrong) = wrong.1 (shape_has_form (form_behind (head_of_step s)) (parts_behind s) of.shape of.fit)
not_wrong s told of (inr wrong) = shape_is_right (form_behind (head_of_step s)) (parts_behind s) told of.shape of.fit wrong.1

never_both : (b : Bool) → b ≡ true → b ≢ false
never_both b is other = false≢true (sym other ∙ is)

-- nothing is wrong with a line that does a step, the limits apart
pub no_fault : (here : Stage) (line : List ℕ) (s : Step) (kind : ℕ) → DoesStep here line s → ¬ IsFault here line kind
no_fault here line s kind does fault = at_fault fault
  where
    read : IsRead line s
    read = line_is_read line s does.text does.fits

    at_fault : IsFault here line kind → ⊥
    at_fault (not_text is unclean) = unclean read.clean
    at_fault (no_word is clean w behind opening none) =
        none (head_of_step s) (opening_same line w (head_text (head_of_step s)) behind (joined (words_behind s)) opening read.opening).0
    at_fault (misplaced is clean h behind opening other) =
        let same = same_words line s h behind read opening in
        let may : may_stand here (head_of_step s) ≡ true = sym (step_stands here s does.fits) ∙ does.stands in
        never_both (may_stand here (head_of_step s)) may (subst (λ (g : Head). may_stand here g ≡ false) same.first other)
    at_fault (ill_quoted is h behind has none) =
        let same = same_words line s h behind read has.opening in
        none (words_behind s) (subst (λ (o : Option (List ℕ)). AreBehind o (words_behind s)) (sym same.rest) read.behind)
    at_fault (wrong_words h behind has words are told wrong is) =
        let same = same_words line s h behind read has.opening in
        let list = same_list line s h behind words read has.opening are in
        not_wrong s told read.of (subst (λ (ws : List (List ℕ)). IsWrong (form_behind (head_of_step s)) ws told) list (subst (λ (g : Head). IsWrong (form_behind g) words told) same.first wrong))

parts_same : (g h : Head) (ps qs : List Part) → g ≡ h → HasShape (form_behind g) ps → HasShape (form_behind h) qs → AllByRecursion IsPart ps → AllByRecursion IsPart qs → map text_of ps ≡ map text_of qs → ps ≡ qs
parts_same g h ps qs same a b fit also words = shape_same (form_behind h) ps qs (subst (λ (k : Head). HasShape (form_behind k) ps) same a) b fit also words

-- a line is the line of one step
pub step_same : (line : List ℕ) (s t : Step) → line ≡ line_of s → IsStep s → line ≡ line_of t → IsStep t → s ≡ t
step_same line s t is fits also fit =
    let a = line_is_read line s is fits in
    let b = line_is_read line t also fit in
    let same = same_words line t (head_of_step s) (joined (words_behind s)) b a.opening in
    let list = same_list line t (head_of_step s) (joined (words_behind s)) (words_behind s) b a.opening a.behind in
    let parts = parts_same (head_of_step s) (head_of_step t) (parts_behind s) (parts_behind t) same.first a.of.shape b.of.shape a.of.fit b.of.fit list in
    sym a.of.said ∙ ap (λ (g : Head). step_in g (parts_behind s)) same.first ∙ ap (step_in (head_of_step t)) parts ∙ b.of.said
