-- The calls that list edges and vertices, also those that pass a constraint.
use Rattle.std.specs.Prelude.{ℕ, Bool, true, false, not, ◌&&◌, List, [], ◌∷◌, map, length, Option, Some, None, Ok, if◌then◌else◌, is_none, ◌==◌}
use Rattle.std.specs.Option.{option_map_or}
use Rattle.std.specs.List.{filter, list_any, list_all, flat_map}
use Rattle.gdi_kinds.specs.declared.constraint.Atom.{Atom}
use Rattle.gdi_kinds.specs.declared.constraint.Atom.TheVariants.{Has, Lacks, Prop}
use Rattle.gdi_kinds.specs.declared.call.Dir.{Dir}
use Rattle.gdi_kinds.specs.declared.edge_line.EdgeLine.{EdgeLine}
use Rattle.gdi_kinds.specs.declared.reply.Reply.TheVariants as reply
use Rattle.gdi_kinds.specs.Constraint.{passes, kind_of, same_kind}
use Rattle.graph_model.specs.Maps.{has, set_of, keys}
use Rattle.graph_model.specs.Graph.{Name, Props, Graph, is_vertex}
use Rattle.graph_model.specs.Lookups.{label_number, type_number, kind_at, names_of, lines_of_props, lines_at}
use Rattle.graph_model.specs.Steps.{◌>>=◌, Step, Answer, found_or, refused_if, leaves}

-- the atoms of a constraint, from the left
abbrev pub atoms_of : Option (List (List Atom)) → List Atom
atoms_of None = []
atoms_of (Some test) = flat_map (λ atoms. atoms) test

-- the first unknown name is the refusal
abbrev pub names_known : Graph → List Atom → Step (Unit {0})
names_known g [] = Ok tt
names_known g (Has name ∷ atoms) = do
  _ ← refused_if (is_none (label_number g name)) reply.NoLabel
  names_known g atoms
names_known g (Lacks name ∷ atoms) = do
  _ ← refused_if (is_none (label_number g name)) reply.NoLabel
  names_known g atoms
names_known g (Prop name op value ∷ atoms) = do
  _ ← refused_if (is_none (type_number g name)) reply.NoType
  names_known g atoms

-- a constant of another kind than its type's
abbrev pub is_of_wrong_kind : Graph → Atom → Bool
is_of_wrong_kind g (Has name) = false
is_of_wrong_kind g (Lacks name) = false
is_of_wrong_kind g (Prop name op value) = option_map_or (λ type. not (same_kind (kind_of value) (kind_at g type))) (type_number g name) false

abbrev pub kinds_agree : Graph → List Atom → Step (Unit {0})
kinds_agree g atoms = refused_if (list_any (is_of_wrong_kind g) atoms) reply.WrongKind

-- whether labels and properties, by number, pass; all do where there is no constraint
abbrev pub passes_test : Graph → Option (List (List Atom)) → List ℕ → Props → Bool
passes_test g None labels props = true
passes_test g (Some test) labels props = passes test (names_of g labels) (lines_of_props g props)

abbrev pub edges : Graph → ℕ → Dir → Option (List (List Atom)) → Step Answer
edges g id dir test = do
  _ ← names_known g (atoms_of test)
  _ ← refused_if (not (is_vertex g id)) (reply.NoVertex id)
  _ ← kinds_agree g (atoms_of test)
  leaves g (reply.Edges (lines_at g (λ entry. passes_test g test entry.1.labels entry.1.props) id dir))

-- the end of an edge across from this vertex, which is the vertex itself at a self loop
abbrev pub other_end : ℕ → EdgeLine → ℕ
other_end id line = if line.source == id then line.target else line.source

abbrev pub every_line : Graph → ℕ → Dir → List EdgeLine
every_line g id dir = lines_at g (λ entry. true) id dir

-- the distinct other ends, rising
abbrev pub near : Graph → ℕ → Dir → Step Answer
near g id dir = do
  _ ← refused_if (not (is_vertex g id)) (reply.NoVertex id)
  leaves g (reply.Ids (set_of (map (other_end id) (every_line g id dir))))

abbrev pub degree : Graph → ℕ → Dir → Step Answer
degree g id dir = do
  _ ← refused_if (not (is_vertex g id)) (reply.NoVertex id)
  leaves g (reply.Count (length (every_line g id dir)))

-- the vertices that pass, rising: with this label, where one is given
abbrev pub vertices_where : Graph → List ℕ → Option (List (List Atom)) → List ℕ
vertices_where g labels test =
    keys (filter (λ entry. list_all (has entry.1.labels) labels && passes_test g test entry.1.labels entry.1.props) g.vertices)

abbrev pub find : Graph → Name → Option (List (List Atom)) → Step Answer
find g name test = do
  label ← found_or reply.NoLabel (label_number g name)
  _ ← names_known g (atoms_of test)
  _ ← kinds_agree g (atoms_of test)
  leaves g (reply.Ids (vertices_where g (label ∷ []) test))
