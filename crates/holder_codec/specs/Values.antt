-- The values of properties, each with the type that it has.
use Rattle.std.specs.Prelude.{ℕ, ◌+◌, ◌*◌, ◌^◌, ◌<◌, Bool, ◌&&◌, ◌||◌, List, [], ◌∷◌, length, nat_lt, ◌==◌, if◌then◌else◌}
use Rattle.std.specs.Int.{w64, cast_unsigned, from_bool}
use Rattle.gdi_kinds.specs.declared.value.Value.{Value}
use Rattle.gdi_kinds.specs.declared.value.Value.TheVariants as value
use Rattle.gdi_kinds.specs.declared.value.Kind.{Kind}
use Rattle.gdi_kinds.specs.declared.value.Kind.TheVariants as kind
use Rattle.gdi_kinds.specs.Constraint.{kind_of, same_kind}
use Rattle.graph_model.specs.WellFormed.{IsValue}
use Rattle.holder_codec.specs.declared.held_prop.HeldProp.{HeldProp}
use Rattle.holder_codec.specs.Texts.{byte_words}

abbrev pub kind_code : Kind → ℕ
kind_code kind.Int = 0
kind_code kind.Bool = 1
kind_code kind.Text = 2

-- how many bytes a value has
abbrev pub byte_length : Value → ℕ
byte_length (value.Int n) = 8
byte_length (value.Bool b) = 1
byte_length (value.Text t) = length t

-- an integer in two's complement, 0 or 1, or the bytes of a text
abbrev pub value_words : Value → List ℕ
value_words (value.Int n) = cast_unsigned w64 n ∷ []
value_words (value.Bool b) = from_bool b ∷ []
value_words (value.Text t) = byte_words t

-- the number of a type with the kind, and with 2^63 where the type is marked
abbrev pub type_word : ℕ → Kind → Bool → ℕ
type_word number kind many = (if many then 2 ^ 63 else 0) + (number * 4 + kind_code kind)

-- that word, how many bytes, and the value
abbrev pub prop_words : HeldProp → List ℕ
prop_words prop = type_word prop.number (kind_of prop.value) prop.many ∷ byte_length prop.value ∷ value_words prop.value

-- both are values of one marked type
abbrev pub are_of_marked_type : HeldProp → HeldProp → Bool
are_of_marked_type one other =
    one.number == other.number && one.many && other.many && same_kind (kind_of one.value) (kind_of other.value)

-- by rising number; one number stands again only with the mark, and with the same word
abbrev pub is_prop_before : HeldProp → HeldProp → Bool
is_prop_before one other = nat_lt one.number other.number || are_of_marked_type one other

-- what has a spelling
pub record PropFits (prop : HeldProp) : Type 0 where
  pub number : prop.number < 2 ^ 32
  pub value : IsValue prop.value
