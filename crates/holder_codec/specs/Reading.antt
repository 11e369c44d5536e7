-- Reading words from left to right: a value and the words after it, or nothing where no such value is spelled. These are
-- the steps of the private readers, whose contracts alone cite this page. What `read` promises is said by the spellings.
use Rattle.std.specs.Prelude.{◌≡◌, ℕ, ◌-◌, ◌/◌, ◌%◌, ◌^◌, ◌<◌, slice_index, zero, suc, Bool, true, false, ◌&&◌, List, [], ◌∷◌, length, take, drop, map, not, Option, Some, None, Result, Ok, Err, nat_lt, nat_le, ◌==◌, if◌then◌else◌}
use Rattle.std.specs.List.{flat_map, list_all, list_any}
use Rattle.std.specs.Int.{w64, cast_signed, to_le_bytes}
use Rattle.std.specs.Str.{is_utf8, bytes_eq}
use Rattle.gdi_kinds.specs.declared.text.Unfit.{Unfit}
use Rattle.gdi_kinds.specs.declared.text.Unfit.TheVariants as unfit
use Rattle.gdi_kinds.specs.declared.value.Value.{Value}
use Rattle.gdi_kinds.specs.declared.value.Value.TheVariants as value
use Rattle.gdi_kinds.specs.declared.value.Kind.{Kind}
use Rattle.gdi_kinds.specs.declared.value.Kind.TheVariants as kind
use Rattle.gdi_kinds.specs.Names.{is_name}
use Rattle.gdi_kinds.specs.Texts.{is_printable}
use Rattle.rma_layout.specs.Placement.{Place}
use Rattle.object_words.specs.Chains.{place_of}
use Rattle.graph_model.specs.Sizes.{words_of_bytes}
use Rattle.holder_codec.specs.declared.bucket_entry.BucketEntry.{BucketEntry}
use Rattle.holder_codec.specs.declared.bucket_holder.BucketHolder.{BucketHolder}
use Rattle.holder_codec.specs.declared.edge_form.EdgeForm.{EdgeForm}
use Rattle.holder_codec.specs.declared.edge_form.EdgeForm.TheVariants.{Plain, Labelled, Heavy}
use Rattle.holder_codec.specs.declared.edge_record.EdgeRecord.{EdgeRecord}
use Rattle.holder_codec.specs.declared.held_prop.HeldProp.{HeldProp}
use Rattle.holder_codec.specs.declared.vertex_holder.VertexHolder.{VertexHolder}
use Rattle.holder_codec.specs.declared.edge_holder.EdgeHolder.{EdgeHolder}
use Rattle.holder_codec.specs.declared.unread.Unread.{Unread}
use Rattle.holder_codec.specs.declared.unread.Unread.TheVariants.{NotSpelled, NoMemory}
use Rattle.holder_codec.specs.declared.index_entry.IndexEntry.{IndexEntry}
use Rattle.holder_codec.specs.declared.index_holder.IndexHolder.{IndexHolder}
use Rattle.holder_codec.specs.declared.type_line.TypeLine.{TypeLine}
use Rattle.holder_codec.specs.declared.meta_holder.MetaHolder.{MetaHolder}
use Rattle.holder_codec.specs.Order.{is_rising}
use Rattle.holder_codec.specs.Values.{is_prop_before}
use Rattle.holder_codec.specs.Edges.{is_record_before}
use Rattle.holder_codec.specs.Bucket.{is_entry_before}
use Rattle.holder_codec.specs.Index.{is_pair_before}

-- numbers of 64 bits
abbrev pub IsWords : List ℕ → Type 0
IsWords words = (i : ℕ) → slice_index words i < 2 ^ 64

infixl 10 ◌>>=◌
abbrev pub ◌>>=◌ : {A B : Type 0} → Option A → (A → Option B) → Option B
None >>= f = None
(Some x) >>= f = f x

-- bytes that are no text are no spelling of one
abbrev pub unread_of : Unfit → Unread
unread_of unfit.NotText = NotSpelled
unread_of unfit.NoMemory = NoMemory

-- What a function returned, seen by view, is what reading gives, unless memory ran out.
abbrev pub Fails : {Y : Type 0} → Unread → Option Y → Type 0
Fails NotSpelled read = read ≡ None
Fails NoMemory read = Unit {0}

abbrev pub Gives : {X Y : Type 0} → (X → Y) → Result X Unread → Option Y → Type 0
Gives view (Ok x) read = read ≡ Some (view x)
Gives view (Err e) read = Fails e read

abbrev pub number_at : List ℕ → Option (ℕ × List ℕ)
number_at [] = None
number_at (word ∷ rest) = Some (word, rest)

unfoldable pub place_at : List ℕ → Option (Place × List ℕ)
place_at words = do
  word ← number_at words
  Some (place_of word.0, word.1)

-- so many, one after the other
unfoldable pub many_at : {X : Type 0} → (List ℕ → Option (X × List ℕ)) → ℕ → List ℕ → Option (List X × List ℕ)
many_at one_at zero words = Some ([], words)
many_at one_at (suc n) words = do
  first ← one_at words
  others ← many_at one_at n first.1
  Some (first.0 ∷ others.0, others.1)

-- the same, each of which stands before the next
unfoldable pub rising_at : {X : Type 0} → (List ℕ → Option (X × List ℕ)) → (X → X → Bool) → ℕ → List ℕ → Option (List X × List ℕ)
rising_at one_at before n words = do
  items ← many_at one_at n words
  if is_rising before items.0 then Some items else None

-- ---- numbers and tests

-- a number of 32 bits
abbrev pub narrow : ℕ → Option ℕ
narrow n = if nat_lt n (2 ^ 32) then Some n else None

abbrev pub bool_of : ℕ → Option Bool
bool_of zero = Some false
bool_of (suc zero) = Some true
bool_of (suc (suc n)) = None

unfoldable pub bool_at : List ℕ → Option (Bool × List ℕ)
bool_at words = do
  word ← number_at words
  bool ← bool_of word.0
  Some (bool, word.1)

-- ---- values and properties

abbrev pub kind_of_code : ℕ → Option Kind
kind_of_code zero = Some kind.Int
kind_of_code (suc zero) = Some kind.Bool
kind_of_code (suc (suc zero)) = Some kind.Text
kind_of_code (suc (suc (suc n))) = None

abbrev pub bytes_of : List ℕ → List ℕ
bytes_of words = flat_map (to_le_bytes w64) words

abbrev pub are_zero : List ℕ → Bool
are_zero bytes = list_all (λ b. b == 0) bytes

-- so many bytes, behind which the last word is 0
unfoldable pub bytes_at : ℕ → List ℕ → Option (List ℕ × List ℕ)
bytes_at n words =
    if nat_lt (length words) (words_of_bytes n) then None
    else (if are_zero (drop n (bytes_of (take (words_of_bytes n) words))) then Some (take n (bytes_of (take (words_of_bytes n) words)), drop (words_of_bytes n) words) else None)

-- whether bytes are a text: UTF-8 of at most 255 bytes without control bytes
unfoldable pub is_text : List ℕ → Bool
is_text bytes = is_utf8 bytes && list_all is_printable bytes && nat_le (length bytes) 255

-- a text of so many bytes
unfoldable pub text_at : ℕ → List ℕ → Option (List ℕ × List ℕ)
text_at n words = do
  bytes ← bytes_at n words
  if is_text bytes.0 then Some bytes else None

-- a value of this kind and so many bytes
unfoldable pub value_at : Kind → ℕ → List ℕ → Option (Value × List ℕ)
value_at kind.Int n words = if n == 8 then (number_at words >>= λ word. Some (value.Int (cast_signed w64 word.0), word.1)) else None
value_at kind.Bool n words = if n == 1 then (bool_at words >>= λ bool. Some (value.Bool bool.0, bool.1)) else None
value_at kind.Text n words = text_at n words >>= λ text. Some (value.Text text.0, text.1)

unfoldable pub prop_at : List ℕ → Option (HeldProp × List ℕ)
prop_at words = do
  head ← number_at words
  size ← number_at head.1
  number ← narrow (head.0 % 2 ^ 63 / 4)
  kind ← kind_of_code (head.0 % 4)
  value ← value_at kind size.0 size.1
  Some (record { number = number; many = nat_le (2 ^ 63) head.0; value = value.0 }, value.1)

-- ---- the other items of a holder

unfoldable pub label_at : List ℕ → Option (ℕ × List ℕ)
label_at words = do
  word ← number_at words
  label ← narrow word.0
  Some (label, word.1)

unfoldable pub form_of : ℕ → Option EdgeForm
form_of word =
    if word == 0 then Some Plain
    else (if nat_lt word (2 ^ 63) then (narrow (word - 1) >>= λ label. Some (Labelled label)) else Some (Heavy (place_of (word - 2 ^ 63))))

-- whether an edge leads to the vertex, and whether it is undirected
abbrev pub direction_of : ℕ → Option (Bool × Bool)
direction_of zero = Some (false, false)
direction_of (suc zero) = Some (true, false)
direction_of (suc (suc zero)) = Some (false, true)
direction_of (suc (suc (suc zero))) = Some (true, true)
direction_of (suc (suc (suc (suc n)))) = None

unfoldable pub record_at : List ℕ → Option (EdgeRecord × List ℕ)
record_at words = do
  direction ← number_at words
  ends ← direction_of direction.0
  ordinal ← number_at direction.1
  other ← number_at ordinal.1
  other_at ← place_at other.1
  word ← number_at other_at.1
  form ← form_of word.0
  Some (record { inward = ends.0; undirected = ends.1; ordinal = ordinal.0; other = other.0; other_at = other_at.0; form = form }, word.1)

unfoldable pub entry_at : List ℕ → Option (BucketEntry × List ℕ)
entry_at words = do
  id ← number_at words
  at ← place_at id.1
  Some (record { id = id.0; at = at.0 }, at.1)

unfoldable pub pair_at : List ℕ → Option (IndexEntry × List ℕ)
pair_at words = do
  label ← label_at words
  id ← number_at label.1
  Some (record { label = label.0; id = id.0 }, id.1)

-- a name of so many bytes as the first word says
unfoldable pub name_at : List ℕ → Option (List ℕ × List ℕ)
name_at words = do
  size ← number_at words
  bytes ← bytes_at size.0 size.1
  if is_name bytes.0 then Some bytes else None

unfoldable pub type_at : List ℕ → Option (TypeLine × List ℕ)
type_at words = do
  head ← number_at words
  many ← bool_of (head.0 / 4)
  kind ← kind_of_code (head.0 % 4)
  name ← name_at head.1
  Some (record { name = name.0; kind = kind; many = many }, name.1)

-- no name stands twice
abbrev pub are_distinct : List (List ℕ) → Bool
are_distinct [] = true
are_distinct (name ∷ names) = not (list_any (bytes_eq name) names) && are_distinct names

-- ---- holders, of all of the words

unfoldable pub vertex_of_words : List ℕ → Option VertexHolder
vertex_of_words words = do
  id ← number_at words
  next ← number_at id.1
  label_count ← number_at next.1
  prop_count ← number_at label_count.1
  edge_count ← number_at prop_count.1
  labels ← rising_at label_at nat_lt label_count.0 edge_count.1
  props ← rising_at prop_at is_prop_before prop_count.0 labels.1
  edges ← rising_at record_at is_record_before edge_count.0 props.1
  if length edges.1 == 0 then Some (record { id = id.0; next = next.0; labels = labels.0; props = props.0; edges = edges.0 }) else None

unfoldable pub edge_of_words : List ℕ → Option EdgeHolder
edge_of_words words = do
  source ← number_at words
  ordinal ← number_at source.1
  target ← number_at ordinal.1
  label_count ← number_at target.1
  prop_count ← number_at label_count.1
  labels ← rising_at label_at nat_lt label_count.0 prop_count.1
  props ← rising_at prop_at is_prop_before prop_count.0 labels.1
  if length props.1 == 0 then Some (record { source = source.0; ordinal = ordinal.0; target = target.0; labels = labels.0; props = props.0 }) else None

unfoldable pub bucket_of_words : List ℕ → Option BucketHolder
bucket_of_words words = do
  entries ← rising_at entry_at is_entry_before (length words / 2) words
  if length entries.1 == 0 then Some (record { entries = entries.0 }) else None

unfoldable pub index_of_words : List ℕ → Option IndexHolder
index_of_words words = do
  entries ← rising_at pair_at is_pair_before (length words / 2) words
  if length entries.1 == 0 then Some (record { entries = entries.0 }) else None

abbrev pub stand_once : MetaHolder → Bool
stand_once meta = are_distinct meta.labels && are_distinct (map (λ line. line.name) meta.types)

-- no words, or how many labels and types there are, and these
unfoldable pub meta_of_words : List ℕ → Option MetaHolder
meta_of_words [] = Some (record { labels = []; types = [] })
meta_of_words (word ∷ words) = do
  types_count ← number_at words
  labels ← many_at name_at word types_count.1
  types ← many_at type_at types_count.0 labels.1
  if length types.1 == 0 && not (word == 0 && types_count.0 == 0) && stand_once (record { labels = labels.0; types = types.0 }) then Some (record { labels = labels.0; types = types.0 }) else None
