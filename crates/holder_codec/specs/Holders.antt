-- The spellings of what stands in the other objects: heavy edges, the index, and the names.
use Rattle.std.specs.Prelude.{ℕ, ◌+◌, ◌*◌, Bool, false, ◌&&◌, List, [], ◌∷◌, ◌++◌, map, length, if◌then◌else◌, ◌==◌}
use Rattle.std.specs.Int.{from_bool}
use Rattle.std.specs.List.{flat_map}
use Rattle.std.specs.Option.{option_map_or}
use Rattle.gdi_kinds.specs.declared.value.Value.{Value}
use Rattle.graph_model.specs.Maps.{item_at}
use Rattle.graph_model.specs.Graph.{Name, PropType, Props, Edge, EdgeKey}
use Rattle.holder_codec.specs.declared.held_prop.HeldProp.{HeldProp}
use Rattle.holder_codec.specs.Texts.{byte_words}
use Rattle.holder_codec.specs.Values.{kind_code, prop_words}
use Rattle.holder_codec.specs.Vertex.{label_words}

-- whether the type of a number is marked
abbrev pub is_marked_in : List PropType → ℕ → Bool
is_marked_in types number = option_map_or (λ type. type.many) (item_at types number) false

-- the values of a property in order
abbrev pub held_values : ℕ → Bool → List Value → List HeldProp
held_values number many values = map (λ value. record { number = number; many = many; value = value }) values

-- the values of all properties, by rising type
abbrev pub held_props : List PropType → Props → List HeldProp
held_props types props = flat_map (λ entry. held_values entry.0 (is_marked_in types entry.0) entry.1) props

-- the source, the ordinal, the target, how many labels and values of properties there are, and these
abbrev pub edge_words : List PropType → EdgeKey → Edge → List ℕ
edge_words types key edge =
    let props = held_props types edge.props in
    key.source ∷ key.ordinal ∷ edge.target ∷ length edge.labels ∷ length props
    ∷ (flat_map label_words edge.labels ++ flat_map prop_words props)

-- a label and a vertex that has it
abbrev pub pair_words : ℕ → ℕ → List ℕ
pair_words label id = label ∷ id ∷ []

abbrev pub name_words : Name → List ℕ
name_words name = length name ∷ byte_words name

-- the kind's code, with 4 more where the type is marked
abbrev pub type_words : PropType → List ℕ
type_words type = (kind_code type.kind + 4 * from_bool type.many) ∷ name_words type.name

-- how many labels and types there are, and these; nothing while there are none
abbrev pub names_words : List Name → List PropType → List ℕ
names_words labels types =
    if length labels == 0 && length types == 0 then []
    else length labels ∷ length types ∷ (flat_map name_words labels ++ flat_map type_words types)
