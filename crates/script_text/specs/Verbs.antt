-- The first words of calls' lines, and what stands behind them.
use Rattle.std.specs.Prelude.{◌≡◌, ℕ, Bool, true, false, List, ◌∷◌, codes}
use Rattle.gdi_kinds.specs.declared.call.Call.{Call}
use Rattle.gdi_kinds.specs.Calls.{is_whole_call}
use Rattle.text_words.specs.Spelling.{HasAtoms}
use Rattle.text_words.specs.Forms.{Form, ends, may_mark, may_label, may_test, then, an_id, a_name, a_value, a_kind, a_dir, a_scope, AreSpelled}
use Rattle.script_text.specs.CallLines.{parts_of, test_of}
use Rattle.script_text.specs.declared.verb.Verb.{Verb}
use Rattle.script_text.specs.declared.verb.Verb.TheVariants.{NewLabel, NewType, Vertex, Has, Drop, Tag, Untag, Tags, Set, Add, Get, Unset, Props, Edge, UEdge, Cut, Target, ETag, EUntag, ETags, ESet, EAdd, EGet, EUnset, EProps, Edges, Near, Degree, Find, Hood, Levels, Parts, Scan, Vertices, Arcs}

-- the word of a call's line
abbrev pub word_of : Verb → List ℕ
word_of NewLabel = codes "newlabel"
word_of NewType = codes "newtype"
word_of Vertex = codes "vertex"
word_of Has = codes "has"
word_of Drop = codes "drop"
word_of Tag = codes "tag"
word_of Untag = codes "untag"
word_of Tags = codes "tags"
word_of Set = codes "set"
word_of Add = codes "add"
word_of Get = codes "get"
word_of Unset = codes "unset"
word_of Props = codes "props"
word_of Edge = codes "edge"
word_of UEdge = codes "uedge"
word_of Cut = codes "cut"
word_of Target = codes "target"
word_of ETag = codes "etag"
word_of EUntag = codes "euntag"
word_of ETags = codes "etags"
word_of ESet = codes "eset"
word_of EAdd = codes "eadd"
word_of EGet = codes "eget"
word_of EUnset = codes "eunset"
word_of EProps = codes "eprops"
word_of Edges = codes "edges"
word_of Near = codes "near"
word_of Degree = codes "degree"
word_of Find = codes "find"
word_of Hood = codes "hood"
word_of Levels = codes "levels"
word_of Parts = codes "parts"
word_of Scan = codes "scan"
word_of Vertices = codes "vertices"
word_of Arcs = codes "arcs"

-- what stands behind the word of a call's line
abbrev pub form_of : Verb → Form
form_of NewLabel = then a_name ends
form_of NewType = then a_name (then a_kind may_mark)
form_of Vertex = then an_id ends
form_of Has = then an_id ends
form_of Drop = then an_id ends
form_of Tag = then an_id (then a_name ends)
form_of Untag = then an_id (then a_name ends)
form_of Tags = then an_id ends
form_of Set = then an_id (then a_name (then a_value ends))
form_of Add = then an_id (then a_name (then a_value ends))
form_of Get = then an_id (then a_name ends)
form_of Unset = then an_id (then a_name ends)
form_of Props = then an_id ends
form_of Edge = then an_id (then an_id may_label)
form_of UEdge = then an_id (then an_id may_label)
form_of Cut = then an_id (then an_id ends)
form_of Target = then an_id (then an_id ends)
form_of ETag = then an_id (then an_id (then a_name ends))
form_of EUntag = then an_id (then an_id (then a_name ends))
form_of ETags = then an_id (then an_id ends)
form_of ESet = then an_id (then an_id (then a_name (then a_value ends)))
form_of EAdd = then an_id (then an_id (then a_name (then a_value ends)))
form_of EGet = then an_id (then an_id (then a_name ends))
form_of EUnset = then an_id (then an_id (then a_name ends))
form_of EProps = then an_id (then an_id ends)
form_of Edges = then an_id (then a_dir may_test)
form_of Near = then an_id (then a_dir ends)
form_of Degree = then an_id (then a_dir ends)
form_of Find = then a_name may_test
form_of Hood = then an_id (then an_id ends)
form_of Levels = then an_id ends
form_of Parts = ends
form_of Scan = then a_scope may_test
form_of Vertices = ends
form_of Arcs = ends

-- the words of the whole-graph calls
abbrev pub is_whole : Verb → Bool
is_whole Hood = true
is_whole Levels = true
is_whole Parts = true
is_whole Scan = true
is_whole Vertices = true
is_whole Arcs = true
is_whole verb = false

-- a word and the words behind it are the line of the call
pub record IsCallOf (verb : Verb) (words : List (List ℕ)) (call : Call) : Type 0 where
  pub spelled : AreSpelled (word_of verb ∷ words) (parts_of call)
  pub atoms : HasAtoms (test_of call)
  pub whole : is_whole_call call ≡ is_whole verb
