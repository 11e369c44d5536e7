-- How many words the objects of a graph have, and how many blocks.
use Rattle.std.specs.Prelude.{ℕ, ◌+◌, ◌-◌, ◌*◌, ◌/◌, max, Bool, ◌&&◌, List, length, sum_by, count_by, nat_lt, if◌then◌else◌, ◌==◌}
use Rattle.gdi_kinds.specs.declared.value.Value.{Value}
use Rattle.gdi_kinds.specs.declared.value.Value.TheVariants as value
use Rattle.rma_layout.specs.Shape.{Shape}
use Rattle.rma_layout.specs.declared.limits.TheConstants.{MOST_WORDS}
use Rattle.rma_layout.specs.Placement.{Place, same_place, bucket_of, slot_of}
use Rattle.graph_model.specs.Graph.{Props, Graph, Vertex, Edge, edges_from, edges_to}

-- no object has more words
abbrev pub most_words : ℕ
most_words = MOST_WORDS

abbrev pub is_too_large : ℕ → Bool
is_too_large words = nat_lt most_words words

-- a quotient, rounded up
abbrev pub quotient_up : ℕ → ℕ → ℕ
quotient_up n d = (n + (d - 1)) / d

-- a name or a text has 8 bytes a word
abbrev pub words_of_bytes : ℕ → ℕ
words_of_bytes bytes = quotient_up bytes 8

abbrev pub words_of_value : Value → ℕ
words_of_value (value.Int n) = 1
words_of_value (value.Bool b) = 1
words_of_value (value.Text text) = words_of_bytes (length text)

-- each value has 2 words before it
abbrev pub words_of_values : List Value → ℕ
words_of_values values = sum_by (λ value. 2 + words_of_value value) values

abbrev pub words_of_props : Props → ℕ
words_of_props props = sum_by (λ entry. words_of_values entry.1) props

-- a vertex has a record of each edge whose source it is and of each edge whose target it is, so two of a self loop
abbrev pub records_at : Graph → ℕ → ℕ
records_at g id = length (edges_from g id) + length (edges_to g id)

abbrev pub words_of_vertex : Graph → ℕ → Vertex → ℕ
words_of_vertex g id vertex = 5 + length vertex.labels + words_of_props vertex.props + 5 * records_at g id

-- of a heavy edge's own object
abbrev pub words_of_edge : Edge → ℕ
words_of_edge edge = 5 + length edge.labels + words_of_props edge.props

-- a bucket has two words for each vertex that it leads to
abbrev pub words_of_bucket : Shape → Graph → Place → ℕ
words_of_bucket shape g place = 2 * count_by (λ entry. same_place (bucket_of shape entry.0) place) g.vertices

-- an object of the index has two words for each label of a vertex that it keeps
abbrev pub words_of_slot : Shape → Graph → Place → ℕ
words_of_slot shape g place =
    2 * sum_by (λ entry. count_by (λ label. same_place (slot_of shape label entry.0) place) entry.1.labels) g.vertices

-- the names of labels and types: nothing while there are none
abbrev pub words_of_names : Graph → ℕ
words_of_names g =
    if length g.labels == 0 && length g.types == 0 then 0
    else 2 + sum_by (λ name. 1 + words_of_bytes (length name)) g.labels + sum_by (λ type. 2 + words_of_bytes (length type.name)) g.types

-- the blocks of an object of so many words: one word of each block is the link to the next
abbrev pub blocks_of_words : Shape → ℕ → ℕ
blocks_of_words shape words = max 1 (quotient_up words (shape.words - 1))
