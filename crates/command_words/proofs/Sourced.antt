-- From the values of the options, one by one, to what they give together.
use Rattle.std.proofs.Common.{◌≡◌, ◌≢◌, ℕ, Bool, true, false, List, [], ◌∷◌, ◌↔◌, inl, inr, refl, sym, ap, subst, ◌∙◌, codes}
use Rattle.std.specs.Prelude.{◌||◌, ◌⊎◌}
use Rattle.std.specs.List.{AllByRecursion}
use Rattle.std.specs.Str.{bytes_eq}
use Rattle.rma_layout.specs.Shape.{Shape}
use Rattle.command_words.specs.Items.{Text, Item, is_among, values_of}
use Rattle.command_words.specs.Commands.{load_options, file_options, MayBeValue, ArePlainValues, AreChosen, HasNumbers}
use Rattle.command_words.specs.Sources.{listed, IsFile, IsPlain, ArePlainSizes, AreSizes, AreValues, GeometryRefused, SourceRefused}
use Rattle.command_words.specs.declared.sizes.Sizes.{Sizes}
use Rattle.command_words.specs.declared.usage.UsageKind.{UsageKind}
use Rattle.command_words.specs.declared.usage.UsageKind.TheVariants as usage
use Rattle.command_words.proofs.Rows.{bytes_same}

module _ (P : Text → Type 0) where
  first_of_all : (first option : Text) (options : List Text) (b : Bool) → bytes_eq first option ≡ b → (b || is_among options option) ≡ true → P first
      → (is_among options option ≡ true → P option) → P option
  first_of_all first option options true same there here others = subst P (bytes_same first option same) here
  first_of_all first option options false differs there here others = others there

  pub of_each : (options : List Text) (option : Text) → AllByRecursion P options → is_among options option ≡ true → P option
  of_each [] option all there = absurd cc
  of_each (first ∷ options) option all there = first_of_all first option options (bytes_eq first option) refl there all.0 (of_each options option all.1)

all_so : {P Q : Text → Type 0} → ((x : Text) → P x → Q x) → (xs : List Text) → AllByRecursion P xs → AllByRecursion Q xs
all_so f [] h = tt
all_so f (x ∷ xs) h = (f x h.0, all_so f xs h.1)

-- the values of each option are these
pub record AreGiven (items : List Item) (names arcs : List Text) (sizes : Sizes) : Type 0 where
  pub vertices : values_of (codes "vertices") items ≡ names
  pub edges : values_of (codes "edges") items ≡ arcs
  pub ranks : values_of (codes "ranks") items ≡ listed sizes.ranks
  pub blocks : values_of (codes "blocks") items ≡ listed sizes.blocks
  pub words : values_of (codes "words") items ≡ listed sizes.words
  pub buckets : values_of (codes "buckets") items ≡ listed sizes.buckets
  pub slots : values_of (codes "slots") items ≡ listed sizes.slots

abbrev ValuesMayBe : List Item → Text → Type 0
ValuesMayBe items option = AllByRecursion (MayBeValue option) (values_of option items)

of_file : (option : Text) (values given : List Text) → values ≡ given → AllByRecursion IsFile given → AllByRecursion (MayBeValue option) values
of_file option values given same files = all_so (λ x h. (h.0, λ _. h.1)) values (subst (AllByRecursion IsFile) (sym same) files)

of_size : (option : Text) (values given : List Text) → is_among file_options option ≡ false → values ≡ given → AllByRecursion IsPlain given → AllByRecursion (MayBeValue option) values
of_size option values given no_file same plain =
    all_so (λ x h. (h, λ is. let no : true ≡ false = sym is ∙ no_file in absurd cc)) values (subst (AllByRecursion IsPlain) (sym same) plain)

module _ (items : List Item) (vertices edges : List Text) (sizes : Sizes) (given : AreGiven items vertices edges sizes) where
  pub plain_values : AreValues vertices edges sizes → ArePlainValues load_options items
  plain_values h = λ option there. of_each (ValuesMayBe items) load_options option (
    of_file (codes "vertices") _ _ given.vertices h.0,
    (
      of_file (codes "edges") _ _ given.edges h.1,
      (
        of_size (codes "ranks") _ _ refl given.ranks h.2.0,
        (
          of_size (codes "blocks") _ _ refl given.blocks h.2.1,
          (of_size (codes "words") _ _ refl given.words h.2.2, (of_size (codes "buckets") _ _ refl given.buckets h.2.3, (of_size (codes "slots") _ _ refl given.slots h.2.4, tt))),
        ),
      ),
    ),
  ) there

  files_of : (option : Text) (values : List Text) → is_among load_options option ≡ true → is_among file_options option ≡ true → values_of option items ≡ values
      → ArePlainValues load_options items → AllByRecursion IsFile values
  files_of option values there file same plain = subst (AllByRecursion IsFile) same (all_so (λ x h. (h.0, h.1 file)) (values_of option items) (plain option there))

  sizes_of : (option : Text) (values : List Text) → is_among load_options option ≡ true → values_of option items ≡ values → ArePlainValues load_options items
      → AllByRecursion IsPlain values
  sizes_of option values there same plain = subst (AllByRecursion IsPlain) same (all_so (λ x h. h.0) (values_of option items) (plain option there))

  pub no_values : ¬ AreValues vertices edges sizes → ¬ ArePlainValues load_options items
  no_values bad plain = bad (
    files_of (codes "vertices") vertices refl refl given.vertices plain,
    files_of (codes "edges") edges refl refl given.edges plain,
    (
      sizes_of (codes "ranks") _ refl given.ranks plain,
      sizes_of (codes "blocks") _ refl given.blocks plain,
      sizes_of (codes "words") _ refl given.words plain,
      sizes_of (codes "buckets") _ refl given.buckets plain,
      sizes_of (codes "slots") _ refl given.slots plain,
    ),
  )

  pub numbers_of : (shape : Shape) → AreSizes sizes shape → HasNumbers items shape
  numbers_of shape h = rw (given.ranks, given.blocks, given.words, given.buckets, given.slots) h

  pub sizes_from : (shape : Shape) → HasNumbers items shape → AreSizes sizes shape
  sizes_from shape h = rw (sym given.ranks, sym given.blocks, sym given.words, sym given.buckets, sym given.slots) h

  pub refused_sizes : (kind : UsageKind) → AreValues vertices edges sizes → GeometryRefused sizes kind → SourceRefused items kind
  refused_sizes usage.Command values h = h
  refused_sizes usage.Words values h = absurd h
  refused_sizes usage.Number values h = (plain_values values, λ shape numbers. h shape (sizes_from shape numbers))
  refused_sizes (usage.Geometry bad) values h = (plain_values values, (h.0, numbers_of h.0 h.1, h.2))
