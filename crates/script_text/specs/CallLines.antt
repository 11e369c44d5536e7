-- The lines of calls.
use Rattle.std.specs.Prelude.{ℕ, List, [], ◌∷◌, codes, Option, None}
use Rattle.std.specs.List.{AllByRecursion}
use Rattle.gdi_kinds.specs.declared.constraint.Atom.{Atom}
use Rattle.gdi_kinds.specs.declared.call.Call.{Call}
use Rattle.gdi_kinds.specs.declared.call.Call.TheVariants.{NewLabel, NewType, Vertex, Has, DropVertex, Tag, Untag, Tags, Set, Add, Get, Unset, Props, Edge, UEdge, Cut, Target, ETag, EUntag, ETags, ESet, EAdd, EGet, EUnset, EProps, Edges, Near, Degree, Find, Hood, Levels, Parts, Scan, Vertices, Arcs}
use Rattle.text_words.specs.Spelling.{kind_text, dir_text, Part, word, number, name, constant, IsPart, label_parts, scope_part, test_parts, many_parts, line_of_parts, HasAtoms}

-- the words of a call's line
abbrev pub parts_of : Call → List Part
parts_of (NewLabel label) = word (codes "newlabel") ∷ name label ∷ []
parts_of (NewType prop kind many) = word (codes "newtype") ∷ name prop ∷ word (kind_text kind) ∷ many_parts many
parts_of (Vertex id) = word (codes "vertex") ∷ number id ∷ []
parts_of (Has id) = word (codes "has") ∷ number id ∷ []
parts_of (DropVertex id) = word (codes "drop") ∷ number id ∷ []
parts_of (Tag id label) = word (codes "tag") ∷ number id ∷ name label ∷ []
parts_of (Untag id label) = word (codes "untag") ∷ number id ∷ name label ∷ []
parts_of (Tags id) = word (codes "tags") ∷ number id ∷ []
parts_of (Set id prop v) = word (codes "set") ∷ number id ∷ name prop ∷ constant v ∷ []
parts_of (Add id prop v) = word (codes "add") ∷ number id ∷ name prop ∷ constant v ∷ []
parts_of (Get id prop) = word (codes "get") ∷ number id ∷ name prop ∷ []
parts_of (Unset id prop) = word (codes "unset") ∷ number id ∷ name prop ∷ []
parts_of (Props id) = word (codes "props") ∷ number id ∷ []
parts_of (Edge source target label) = word (codes "edge") ∷ number source ∷ number target ∷ label_parts label
parts_of (UEdge source target label) = word (codes "uedge") ∷ number source ∷ number target ∷ label_parts label
parts_of (Cut source ordinal) = word (codes "cut") ∷ number source ∷ number ordinal ∷ []
parts_of (Target source ordinal) = word (codes "target") ∷ number source ∷ number ordinal ∷ []
parts_of (ETag source ordinal label) = word (codes "etag") ∷ number source ∷ number ordinal ∷ name label ∷ []
parts_of (EUntag source ordinal label) = word (codes "euntag") ∷ number source ∷ number ordinal ∷ name label ∷ []
parts_of (ETags source ordinal) = word (codes "etags") ∷ number source ∷ number ordinal ∷ []
parts_of (ESet source ordinal prop v) = word (codes "eset") ∷ number source ∷ number ordinal ∷ name prop ∷ constant v ∷ []
parts_of (EAdd source ordinal prop v) = word (codes "eadd") ∷ number source ∷ number ordinal ∷ name prop ∷ constant v ∷ []
parts_of (EGet source ordinal prop) = word (codes "eget") ∷ number source ∷ number ordinal ∷ name prop ∷ []
parts_of (EUnset source ordinal prop) = word (codes "eunset") ∷ number source ∷ number ordinal ∷ name prop ∷ []
parts_of (EProps source ordinal) = word (codes "eprops") ∷ number source ∷ number ordinal ∷ []
parts_of (Edges id dir test) = word (codes "edges") ∷ number id ∷ word (dir_text dir) ∷ test_parts test
parts_of (Near id dir) = word (codes "near") ∷ number id ∷ word (dir_text dir) ∷ []
parts_of (Degree id dir) = word (codes "degree") ∷ number id ∷ word (dir_text dir) ∷ []
parts_of (Find label test) = word (codes "find") ∷ name label ∷ test_parts test
parts_of (Hood id depth) = word (codes "hood") ∷ number id ∷ number depth ∷ []
parts_of (Levels id) = word (codes "levels") ∷ number id ∷ []
parts_of Parts = word (codes "parts") ∷ []
parts_of (Scan label test) = word (codes "scan") ∷ scope_part label ∷ test_parts test
parts_of Vertices = word (codes "vertices") ∷ []
parts_of Arcs = word (codes "arcs") ∷ []

abbrev pub line_of_call : Call → List ℕ
line_of_call call = line_of_parts (parts_of call)

-- the constraint of a call, where it has one
abbrev pub test_of : Call → Option (List (List Atom))
test_of (Edges id dir test) = test
test_of (Find label test) = test
test_of (Scan label test) = test
test_of call = None

-- a call that has a line
pub record IsCall (call : Call) : Type 0 where
  pub parts : AllByRecursion IsPart (parts_of call)
  pub atoms : HasAtoms (test_of call)
