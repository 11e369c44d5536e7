-- Words ask for one command, and aren't refused then.
use Rattle.std.proofs.Common.{◌≡◌, ◌≤◌, ℕ, List, [], ◌∷◌, map, codes, Option, Some, None, refl, sym, ap, subst, ◌∙◌, arith}
use Rattle.std.specs.Option.{option_map, option_to_list}
use Rattle.std.proofs.lemmas.Bool.{false≢true}
use Rattle.std.proofs.lemmas.Fmt.{decimal_injective}
use Rattle.rma_layout.specs.Shape.{Shape, standard_shape}
use Rattle.rma_layout.specs.Ranges.{refusal_of}
use Rattle.rma_layout.specs.declared.geometry.BadGeometry.{BadGeometry}
use Rattle.command_words.specs.Items.{Text, Item, Spells, values_of, names_of}
use Rattle.command_words.specs.Items as spell
use Rattle.command_words.specs.Commands.{AreChosen, AreDrill, Asks, HasNumbers, HasSource, IsAsked, IsChosen, IsRefused, command_text, load_options}
use Rattle.command_words.specs.declared.command.Command.{Command}
use Rattle.command_words.specs.declared.command.Command.TheVariants.{Run, Check, Report, Drill}
use Rattle.command_words.specs.declared.command.CommandName.{CommandName}
use Rattle.command_words.specs.declared.command.CommandName.TheVariants as named
use Rattle.command_words.specs.declared.source.Source.{Source}
use Rattle.command_words.specs.declared.usage.UsageKind.{UsageKind}
use Rattle.command_words.specs.declared.usage.UsageKind.TheVariants as usage
use Rattle.command_words.proofs.Meanings.{same_items}
use Rattle.command_words.proofs.Refusals.{load_are, none_are}
use Rattle.plain_run.specs.Loading.{HasRoom}
use Rattle.drill_run.specs.Drills.{drill_shape, load_of}
use Rattle.gdi_run.specs.declared.status.Status.{Status}
use Rattle.gdi_run.specs.Commands.{FileNames, Held, IsDone, names_for, names_with}
use Rattle.gdi_run.specs.Answer.{AreRight, IsEnd, MayDo}

abbrev first_of : {X : Type 0} → List X → Option X
first_of [] = None
first_of (x ∷ xs) = Some x

back : {X : Type 0} (o : Option X) → first_of (option_to_list o) ≡ o
back None = refl
back (Some x) = refl

same_option : {X : Type 0} (a b : Option X) (texts : List X) → texts ≡ option_to_list a → texts ≡ option_to_list b → a ≡ b
same_option a b texts one other = sym (back a) ∙ ap first_of (sym one ∙ other) ∙ back b

same_number : (texts : List Text) (usual n m : ℕ) → IsChosen texts usual n → IsChosen texts usual m → n ≡ m
same_number [] usual n m one other = one ∙ sym other
same_number (text ∷ texts) usual n m one other = decimal_injective n m one.1 other.1 (sym one.0 ∙ other.0)

same_shape : (ranks blocks words buckets slots : List Text) (one other : Shape) → AreChosen ranks blocks words buckets slots one → AreChosen ranks blocks words buckets slots other → one ≡ other
same_shape ranks blocks words buckets slots one other a b =
    let first : Shape = record { ranks = other.ranks; blocks = one.blocks; words = one.words; buckets = one.buckets; slots = one.slots } in
    let second : Shape = record { ranks = other.ranks; blocks = other.blocks; words = one.words; buckets = one.buckets; slots = one.slots } in
    let third : Shape = record { ranks = other.ranks; blocks = other.blocks; words = other.words; buckets = one.buckets; slots = one.slots } in
    let fourth : Shape = record { ranks = other.ranks; blocks = other.blocks; words = other.words; buckets = other.buckets; slots = one.slots } in
    let with_ranks : ℕ → Shape = λ n. record { ranks = n; blocks = one.blocks; words = one.words; buckets = one.buckets; slots = one.slots } in
    let with_blocks : ℕ → Shape = λ n. record { ranks = other.ranks; blocks = n; words = one.words; buckets = one.buckets; slots = one.slots } in
    let with_words : ℕ → Shape = λ n. record { ranks = other.ranks; blocks = other.blocks; words = n; buckets = one.buckets; slots = one.slots } in
    let with_buckets : ℕ → Shape = λ n. record { ranks = other.ranks; blocks = other.blocks; words = other.words; buckets = n; slots = one.slots } in
    let with_slots : ℕ → Shape = λ n. record { ranks = other.ranks; blocks = other.blocks; words = other.words; buckets = other.buckets; slots = n } in
    let of_ranks : one ≡ first = ap with_ranks (same_number ranks standard_shape.ranks one.ranks other.ranks a.of_ranks b.of_ranks) in
    let of_blocks : first ≡ second = ap with_blocks (same_number blocks standard_shape.blocks one.blocks other.blocks a.of_blocks b.of_blocks) in
    let of_words : second ≡ third = ap with_words (same_number words standard_shape.words one.words other.words a.of_words b.of_words) in
    let of_buckets : third ≡ fourth = ap with_buckets (same_number buckets standard_shape.buckets one.buckets other.buckets a.of_buckets b.of_buckets) in
    let of_slots : fourth ≡ other = ap with_slots (same_number slots standard_shape.slots one.slots other.slots a.of_slots b.of_slots) in
    of_ranks ∙ of_blocks ∙ of_words ∙ of_buckets ∙ of_slots

-- two sources that name the same files and numbers
record SameSource (one other : Source) : Type 0 where
  vertices : option_map (λ name. name.now) one.vertices ≡ option_map (λ name. name.now) other.vertices
  edges : option_map (λ name. name.now) one.edges ≡ option_map (λ name. name.now) other.edges
  geometry : one.geometry ≡ other.geometry

same_source : (items : List Item) (one other : Source) → HasSource items one → HasSource items other → SameSource one other
same_source items one other a b = record {
  vertices = same_option _ _ (values_of (codes "vertices") items) a.vertices b.vertices;
  edges = same_option _ _ (values_of (codes "edges") items) a.edges b.edges;
  geometry = same_shape _ _ _ _ _ one.geometry other.geometry a.numbers b.numbers;
}

abbrev first_name : List Text → Text
first_name [] = []
first_name (name ∷ names) = name

abbrev second_name : List Text → Text
second_name [] = []
second_name (name ∷ names) = first_name names

same_names : (one other : Source) (script text : Text) (output checked : Option Text) → SameSource one other → script ≡ text → output ≡ checked
    → names_with one script output ≡ names_with other text checked
same_names one other script text output checked same scripts outputs =
    let with_vertices : Option Text → FileNames = λ v. record { vertices = v; edges = option_map (λ name. name.now) one.edges; script = Some script; output = output } in
    let with_edges : Option Text → FileNames = λ e. record { vertices = option_map (λ name. name.now) other.vertices; edges = e; script = Some script; output = output } in
    ap with_vertices same.vertices ∙ ap with_edges same.edges ∙ ap (λ (t : Text). names_with other t output) scripts ∙ ap (λ (o : Option Text). names_with other text o) outputs

-- ---- what words ask for, twice

-- the words of a drill give one size and one seed
one_drill : (names : List Text) (size seed more next : ℕ) → AreDrill names size seed → AreDrill names more next → (size ≡ more) × (seed ≡ next)
one_drill [] size seed more next one other = absurd one
one_drill (first ∷ []) size seed more next one other = absurd one
one_drill (first ∷ second ∷ []) size seed more next one other =
    (decimal_injective size more one.0.1 other.0.1 (sym one.0.0 ∙ other.0.0), decimal_injective seed next one.1.1 other.1.1 (sym one.1.0 ∙ other.1.0))
one_drill (first ∷ second ∷ third ∷ rest) size seed more next one other = absurd one

in_range : (names : List Text) (size seed : ℕ) → AreDrill names size seed → (1 ≤ size) × (size ≤ 10000)
in_range [] size seed are = absurd are
in_range (first ∷ []) size seed are = absurd are
in_range (first ∷ second ∷ []) size seed are = (are.2, are.3)
in_range (first ∷ second ∷ third ∷ rest) size seed are = absurd are

pub drill_in_range : (name : CommandName) (words : List Text) (size seed : ℕ) → IsDone name → Asks name words (Drill size seed) → (1 ≤ size) × (size ≤ 10000)
drill_in_range named.Run words size seed done asks = absurd asks.2
drill_in_range named.Check words size seed done asks = absurd asks.2
drill_in_range named.Drill words size seed done asks = in_range (names_of asks.0) size seed asks.2
drill_in_range named.Report words size seed done asks = absurd done

-- two commands that read the same files, need the same and end alike
pub record AreAlike (one other : Command) : Type 0 where
  pub names : names_for other ≡ names_for one
  pub may : (held : Held) → MayDo other held → MayDo one held
  pub ends : (status : Status) → IsEnd one status → IsEnd other status

pub alike : (name : CommandName) (words : List Text) (one other : Command) → IsDone name → Asks name words one → Asks name words other → AreAlike one other
alike named.Run words (Run one script) (Run other text) done (items, form, is) (others, others_form, others_is) =
    let items_same : others ≡ items = same_items load_options load_are.are_names others_form.spelled form.spelled in
    let source : HasSource items other = subst (λ xs. HasSource xs other) items_same others_is.0 in
    let names : text.now ∷ [] ≡ script.now ∷ [] = sym others_is.1 ∙ ap names_of items_same ∙ is.1 in
    let same : SameSource other one = same_source items other one source is.0 in
    record {
      names = same_names other one text.now script.now None None same (ap first_name names) refl;
      may = λ held may. subst (λ g. AreRight g held.texts) same.geometry may;
      ends = λ status end. end;
    }
alike named.Check words (Check one script output) (Check other text checked) done (items, form, is) (others, others_form, others_is) =
    let items_same : others ≡ items = same_items load_options load_are.are_names others_form.spelled form.spelled in
    let source : HasSource items other = subst (λ xs. HasSource xs other) items_same others_is.0 in
    let names : text.now ∷ checked.now ∷ [] ≡ script.now ∷ output.now ∷ [] = sym others_is.1 ∙ ap names_of items_same ∙ is.1 in
    let same : SameSource other one = same_source items other one source is.0 in
    record {
      names = same_names other one text.now script.now (Some checked.now) (Some output.now) same (ap first_name names) (ap Some (ap second_name names));
      may = λ held may. (subst (λ g. AreRight g held.texts) same.geometry may.0, may.1);
      ends = λ status end. end;
    }
alike named.Run words (Check source script output) other done (items, form, is) asks = absurd is
alike named.Run words (Report source) other done (items, form, is) asks = absurd is
alike named.Run words (Drill size seed) other done (items, form, is) asks = absurd is
alike named.Run words (Run source script) (Check other text checked) done asked (items, form, is) = absurd is
alike named.Run words (Run source script) (Report other) done asked (items, form, is) = absurd is
alike named.Run words (Run source script) (Drill size seed) done asked (items, form, is) = absurd is
alike named.Check words (Run source script) other done (items, form, is) asks = absurd is
alike named.Check words (Report source) other done (items, form, is) asks = absurd is
alike named.Check words (Drill size seed) other done (items, form, is) asks = absurd is
alike named.Check words (Check source script output) (Run other text) done asked (items, form, is) = absurd is
alike named.Check words (Check source script output) (Report other) done asked (items, form, is) = absurd is
alike named.Check words (Check source script output) (Drill size seed) done asked (items, form, is) = absurd is
alike named.Drill words (Drill size seed) (Drill more next) done (items, form, is) (others, others_form, others_is) =
    let items_same : others ≡ items = same_items [] none_are.are_names others_form.spelled form.spelled in
    let same = one_drill (names_of items) size seed more next is (subst (λ xs. AreDrill (names_of xs) more next) items_same others_is) in
    record {
      names = refl;
      may = λ held may. subst (λ n. HasRoom drill_shape (load_of n seed)) (sym same.0) (subst (λ s. HasRoom drill_shape (load_of more s)) (sym same.1) may);
      ends = λ status end. end;
    }
alike named.Drill words (Run source script) other done (items, form, is) asks = absurd is
alike named.Drill words (Check source script output) other done (items, form, is) asks = absurd is
alike named.Drill words (Report source) other done (items, form, is) asks = absurd is
alike named.Drill words (Drill size seed) (Run other text) done asked (items, form, is) = absurd is
alike named.Drill words (Drill size seed) (Check other text checked) done asked (items, form, is) = absurd is
alike named.Drill words (Drill size seed) (Report other) done asked (items, form, is) = absurd is
alike named.Report words one other done asked asks = absurd done

-- ---- what words ask for isn't refused

-- a command that loads
abbrev IsLoading : CommandName → Type 0
IsLoading named.Run = Unit {0}
IsLoading named.Check = Unit {0}
IsLoading name = ⊥

has_source : (name : CommandName) (items : List Item) (asked : Command) → IsLoading name → IsAsked name items asked → (source : Source) × HasSource items source
has_source named.Run items (Run source script) done is = (source, is.0)
has_source named.Check items (Check source script output) done is = (source, is.0)
has_source named.Run items (Check source script output) done is = absurd is
has_source named.Run items (Report source) done is = absurd is
has_source named.Run items (Drill size seed) done is = absurd is
has_source named.Check items (Run source script) done is = absurd is
has_source named.Check items (Report source) done is = absurd is
has_source named.Check items (Drill size seed) done is = absurd is
has_source named.Report items asked loading is = absurd loading
has_source named.Drill items asked loading is = absurd loading

-- its numbers make a geometry
module _ (items others : List Item) (words : List Text) (spelled : Spells load_options words items) (also : Spells load_options words others) (source : Source) (has : HasSource items source) where
  numbers : HasNumbers others source.geometry
  numbers = subst (λ xs. HasNumbers xs source.geometry) (same_items load_options load_are.are_names spelled also) has.numbers

  no_other : (bad : BadGeometry) (shape : Shape) → HasNumbers others shape → refusal_of shape ≡ Some bad → ⊥
  no_other bad shape have unfit =
      let same : source.geometry ≡ shape = same_shape _ _ _ _ _ source.geometry shape numbers have in
      let no : None ≡ Some bad = sym has.fits ∙ ap refusal_of same ∙ unfit in
      absurd cc

named_alone : (option : Text) (words : List Text) → values_of option (map spell.Named words) ≡ []
named_alone option [] = refl
named_alone option (word ∷ words) = named_alone option words

-- words without options give the standard geometry, which is right
no_values : {words : List Text} {items : List Item} (option : Text) → Spells [] words items → values_of option items ≡ []
no_values option spell.none = refl
no_values option (spell.name plain spelled) = no_values option spelled
no_values option (spell.apart there plain spelled) = absurd (false≢true there)
no_values option (spell.joined there spelled) = absurd (false≢true there)
no_values option (spell.rest {words}) = named_alone option words

no_geometry : (words : List Text) (items : List Item) → Spells [] words items → (bad : BadGeometry) (shape : Shape) → HasNumbers items shape → refusal_of shape ≡ Some bad → ⊥
no_geometry words items spelled bad shape have unfit =
    let none_of : (option : Text) → values_of option items ≡ [] = λ option. no_values option spelled in
    let usual : AreChosen [] [] [] [] [] standard_shape = record { of_ranks = refl; of_blocks = refl; of_words = refl; of_buckets = refl; of_slots = refl } in
    let chosen : AreChosen [] [] [] [] [] shape = record {
      of_ranks = subst (λ ts. IsChosen ts standard_shape.ranks shape.ranks) (none_of (codes "ranks")) have.of_ranks;
      of_blocks = subst (λ ts. IsChosen ts standard_shape.blocks shape.blocks) (none_of (codes "blocks")) have.of_blocks;
      of_words = subst (λ ts. IsChosen ts standard_shape.words shape.words) (none_of (codes "words")) have.of_words;
      of_buckets = subst (λ ts. IsChosen ts standard_shape.buckets shape.buckets) (none_of (codes "buckets")) have.of_buckets;
      of_slots = subst (λ ts. IsChosen ts standard_shape.slots shape.slots) (none_of (codes "slots")) have.of_slots;
    } in
    let same : standard_shape ≡ shape = same_shape [] [] [] [] [] standard_shape shape usual chosen in
    let fits : refusal_of standard_shape ≡ None = refl in
    let no : None ≡ Some bad = sym fits ∙ ap refusal_of same ∙ unfit in
    absurd cc

pub not_refused : (name : CommandName) (words : List Text) (asked : Command) (kind : UsageKind) → IsDone name → Asks name words asked → IsRefused name words kind → ⊥
not_refused name words asked usage.Command done asks why = why
not_refused name words asked usage.Words done (items, form, is) why = why items form
not_refused named.Run words asked usage.Number done (items, form, is) (others, others_form, bad) =
    let has = has_source named.Run items asked tt is in
    bad has.0.geometry (numbers items others words form.spelled others_form.spelled has.0 has.1)
not_refused named.Check words asked usage.Number done (items, form, is) (others, others_form, bad) =
    let has = has_source named.Check items asked tt is in
    bad has.0.geometry (numbers items others words form.spelled others_form.spelled has.0 has.1)
not_refused named.Run words asked (usage.Geometry bad) done (items, form, is) (others, others_form, (shape, have, unfit)) =
    let has = has_source named.Run items asked tt is in
    no_other items others words form.spelled others_form.spelled has.0 has.1 bad shape have unfit
not_refused named.Check words asked (usage.Geometry bad) done (items, form, is) (others, others_form, (shape, have, unfit)) =
    let has = has_source named.Check items asked tt is in
    no_other items others words form.spelled others_form.spelled has.0 has.1 bad shape have unfit
not_refused named.Report words asked usage.Number done asks why = absurd done
not_refused named.Report words asked (usage.Geometry bad) done asks why = absurd done
not_refused named.Drill words (Drill size seed) usage.Number done (items, form, is) (others, others_form, bad) =
    bad size seed (subst (λ xs. AreDrill (names_of xs) size seed) (same_items [] none_are.are_names form.spelled others_form.spelled) is)
not_refused named.Drill words (Run source script) usage.Number done (items, form, is) why = absurd is
not_refused named.Drill words (Check source script output) usage.Number done (items, form, is) why = absurd is
not_refused named.Drill words (Report source) usage.Number done (items, form, is) why = absurd is
not_refused named.Drill words asked (usage.Geometry bad) done asks (others, others_form, (shape, have, unfit)) = no_geometry words others others_form.spelled bad shape have unfit

-- ---- the words of a command are of one

abbrev front : List ℕ → ℕ
front [] = 0
front (byte ∷ bytes) = byte

check_is_not_drill : codes "check" ≡ codes "drill" → ⊥
check_is_not_drill is =
    let fronts : 99 ≡ 100 = ap front is in
    omega (arith, fronts)

pub same_command : (one other : CommandName) → command_text one ≡ command_text other → one ≡ other
same_command named.Run named.Run is = refl
same_command named.Run named.Check is = absurd (cc)
same_command named.Run named.Report is = absurd (cc)
same_command named.Run named.Drill is = absurd (cc)
same_command named.Check named.Run is = absurd (cc)
same_command named.Check named.Check is = refl
same_command named.Check named.Report is = absurd (cc)
same_command named.Check named.Drill is = absurd (check_is_not_drill is)
same_command named.Report named.Run is = absurd (cc)
same_command named.Report named.Check is = absurd (cc)
same_command named.Report named.Report is = refl
same_command named.Report named.Drill is = absurd (cc)
same_command named.Drill named.Run is = absurd (cc)
same_command named.Drill named.Check is = absurd (check_is_not_drill (sym is))
same_command named.Drill named.Report is = absurd (cc)
same_command named.Drill named.Drill is = refl
