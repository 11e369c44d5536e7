-- What a line of output says: its words are words of a line, it has no LF, and no two lines say the same.
use Rattle.std.proofs.Common.{◌≡◌, ◌≢◌, ℕ, suc, ◌+◌, ◌^◌, ◌<◌, Bool, true, false, List, [], ◌∷◌, ◌++◌, map, length, Option, Some, None, refl, sym, ap, subst, ◌∙◌, ◌⊎◌, inl, inr, append_assoc, arith}
use Rattle.std.specs.Prelude.{codes, pos, negsuc}
use Rattle.std.specs.List.{flat_map, AllByRecursion}
use Rattle.std.specs.Fmt.{decimal}
use Rattle.std.proofs.lemmas.Bool.{false≢true}
use Rattle.std.proofs.lemmas.Bool.Decides.{nat_tests}
use Rattle.std.proofs.lemmas.List.{append-nil}
use Rattle.std.proofs.lemmas.List.Folds.{list_all-append}
use Rattle.std.proofs.lemmas.Fmt.{decimal_injective}
use Rattle.gdi_kinds.specs.Names.{IsName}
use Rattle.gdi_kinds.specs.Texts.{is_printable}
use Rattle.gdi_kinds.specs.declared.value.Value.{Value}
use Rattle.gdi_kinds.specs.declared.value.Value.TheVariants as value
use Rattle.gdi_kinds.specs.declared.edge_line.EdgeLine.{EdgeLine}
use Rattle.gdi_kinds.specs.declared.prop_line.PropLine.{PropLine}
use Rattle.gdi_kinds.specs.declared.pair.Pair.{Pair}
use Rattle.gdi_kinds.specs.declared.reply.Reply.{Reply}
use Rattle.gdi_kinds.specs.declared.reply.Reply.TheVariants as reply
use Rattle.text_words.specs.Spelling.{value_text, IsValue}
use Rattle.text_words.proofs.ValueLemmas.{heads_differ}
use Rattle.text_words.proofs.PlainLemmas.{IsPlain, is_plain_byte, name_is_plain, number_is_plain}
use Rattle.text_words.proofs.PrintLemmas.{Prints, both_true, parts_true, prints-append, value_prints}
use Rattle.outcome_text.specs.declared.said.Said.{Said}
use Rattle.outcome_text.specs.declared.said.Said.TheVariants as said
use Rattle.outcome_text.specs.declared.said.Head.{Head}
use Rattle.outcome_text.specs.declared.said.Ending.{Ending}
use Rattle.outcome_text.specs.declared.said.Ending.TheVariants as ending
use Rattle.outcome_text.specs.Outputs.{prop_text, pair_text, edge_text, way_text, reply_word, reply_items}
use Rattle.outcome_text.specs.Runs.{IsNumber, IsPropLine, IsPair, IsEdgeLine, IsReply}
use Rattle.outcome_text.specs.WrongLine.{HasNoEnd}
use Rattle.outcome_text.specs.Reading.{HasNoMark, IsItemWord, HasNo, IsCut, spaced_word, joined, place_word, ending_words, IsEnding, IsHead, said_words, IsSaid, said_line, SaysOrNone, LineSays, IsReplyOf, may_stand}
use Rattle.outcome_text.proofs.CutLemmas.{cut_joins, joined_cut, cut_same}
use Rattle.outcome_text.proofs.InverseLemmas.{split_same, no_split, number_lacks, edge_parts, reply_same}

-- ---- words without control bytes

-- a word of a line that has no control byte
pub record IsGood (w : List ℕ) : Type 0 where
  pub word : IsItemWord w
  pub prints : Prints w

plain_no_mark : (w : List ℕ) → IsPlain w → HasNoMark w
plain_no_mark [] plain = tt
plain_no_mark (b ∷ w) plain =
    let parts = parts_true (is_plain_byte b) _ plain in
    ((grind (arith, nat_tests, parts.0), grind (arith, nat_tests, parts.0)), plain_no_mark w parts.1)

plain_prints : (w : List ℕ) → IsPlain w → Prints w
plain_prints [] plain = refl
plain_prints (b ∷ w) plain =
    let parts = parts_true (is_plain_byte b) _ plain in
    both_true (is_printable b) _ (grind (arith, nat_tests, parts.0)) (plain_prints w parts.1)

plain_good : (w : List ℕ) → IsPlain w → IsGood w
plain_good w plain = record {
  word = record { front = w; quote = []; plain = plain_no_mark w plain; quoted = inl refl; is = sym (append-nil w) };
  prints = plain_prints w plain;
}

plain-append : (xs ys : List ℕ) → IsPlain xs → IsPlain ys → IsPlain (xs ++ ys)
plain-append xs ys first rest = list_all-append is_plain_byte xs ys ∙ both_true _ _ first rest

value_plain : (v : Value) → IsValue v → IsPlain (value_text v) ⊎ ((bytes : List ℕ) × (v ≡ value.Text bytes))
value_plain (value.Int (pos n)) fits = inl (number_is_plain n (omega (arith, fits)))
value_plain (value.Int (negsuc n)) fits = inl (both_true (is_plain_byte 45) _ refl (number_is_plain (suc n) (omega (arith, fits))))
value_plain (value.Bool true) fits = inl refl
value_plain (value.Bool false) fits = inl refl
value_plain (value.Text bytes) fits = inr (bytes, refl)

-- a value behind what is plain
behind_plain : (front : List ℕ) (v : Value) → IsPlain front → IsValue v → IsItemWord (front ++ value_text v)
behind_plain front v plain fits =
    elim (value_plain v fits) [
      | inl simple ↦ (plain_good (front ++ value_text v) (plain-append front (value_text v) plain simple)).word
      | inr text ↦
          record { front = front; quote = value_text v; plain = plain_no_mark front plain; quoted = inr (text.0, ap value_text text.1); is = refl }
    ]

value_good : (v : Value) → IsValue v → IsGood (value_text v)
value_good v fits = record { word = behind_plain [] v refl fits; prints = value_prints v fits }

name_good : (w : List ℕ) → IsName w → IsGood w
name_good w is = plain_good w (name_is_plain w is)

number_good : (n : ℕ) → IsNumber n → IsGood (decimal n)
number_good n lt = plain_good (decimal n) (number_is_plain n lt)

-- two numbers with a plain byte between them
two_plain : (mark m n : ℕ) → is_plain_byte mark ≡ true → IsNumber m → IsNumber n → IsPlain (decimal m ++ mark ∷ decimal n)
two_plain mark m n plain a b = plain-append (decimal m) (mark ∷ decimal n) (number_is_plain m a) (both_true (is_plain_byte mark) _ plain (number_is_plain n b))

pair_good : (p : Pair) → IsPair p → IsGood (pair_text p)
pair_good p fits = plain_good (pair_text p) (two_plain 58 p.id p.number refl fits.id fits.number)

way_plain : (undirected inward : Bool) → IsPlain (way_text undirected inward)
way_plain true inward = refl
way_plain false true = refl
way_plain false false = refl

edge_good : (e : EdgeLine) → IsEdgeLine e → IsGood (edge_text e)
edge_good e fits =
    let last = two_plain 58 e.ordinal e.target refl fits.ordinal fits.target in
    let rest = plain-append (decimal e.source) (58 ∷ (decimal e.ordinal ++ 58 ∷ decimal e.target)) (number_is_plain e.source fits.source) (both_true (is_plain_byte 58) _ refl last) in
    subst IsGood (sym (edge_parts e)) (plain_good _ (plain-append (way_text e.undirected e.inward) _ (way_plain e.undirected e.inward) (both_true (is_plain_byte 58) _ refl rest)))

prop_good : (p : PropLine) → IsPropLine p → IsGood (prop_text p)
prop_good p fits =
    let front : List ℕ = p.name ++ 61 ∷ [] in
    let plain : IsPlain front = plain-append p.name (61 ∷ []) (name_is_plain p.name fits.name) refl in
    let same : front ++ value_text p.value ≡ prop_text p = append_assoc p.name (61 ∷ []) (value_text p.value) in
    subst IsGood same (record { word = behind_plain front p.value plain fits.value; prints = prints-append front (value_text p.value) (plain_prints front plain) (value_prints p.value fits.value) })

all_good : {A : Type 0} (f : A → List ℕ) (P : A → Type 0) → ((x : A) → P x → IsGood (f x)) → (xs : List A) → AllByRecursion P xs → AllByRecursion IsGood (map f xs)
all_good f P to [] all = tt
all_good f P to (x ∷ xs) all = (to x all.0, all_good f P to xs all.1)

names_good : (names : List (List ℕ)) → AllByRecursion IsName names → AllByRecursion IsGood names
names_good [] all = tt
names_good (w ∷ names) all = (name_good w all.0, names_good names all.1)

reply_word_good : (r : Reply) → IsGood (reply_word r)
reply_word_good reply.Done = plain_good _ refl
reply_word_good reply.Yes = plain_good _ refl
reply_word_good reply.No = plain_good _ refl
reply_word_good reply.Exists = plain_good _ refl
reply_word_good (reply.NoVertex id) = plain_good _ refl
reply_word_good reply.NoEdge = plain_good _ refl
reply_word_good reply.NoLabel = plain_good _ refl
reply_word_good reply.NoType = plain_good _ refl
reply_word_good reply.NoProp = plain_good _ refl
reply_word_good reply.WrongKind = plain_good _ refl
reply_word_good reply.NotMany = plain_good _ refl
reply_word_good reply.HasLabel = plain_good _ refl
reply_word_good reply.LacksLabel = plain_good _ refl
reply_word_good reply.TooLarge = plain_good _ refl
reply_word_good (reply.EdgeIs source ordinal) = plain_good _ refl
reply_word_good (reply.Labels names) = plain_good _ refl
reply_word_good (reply.Props props) = plain_good _ refl
reply_word_good (reply.Value v) = plain_good _ refl
reply_word_good (reply.Values vs) = plain_good _ refl
reply_word_good (reply.Edges lines) = plain_good _ refl
reply_word_good (reply.Ids ids) = plain_good _ refl
reply_word_good (reply.Levels pairs) = plain_good _ refl
reply_word_good (reply.Parts pairs) = plain_good _ refl
reply_word_good (reply.Count n) = plain_good _ refl

reply_items_good : (r : Reply) → IsReply r → AllByRecursion IsGood (reply_items r)
reply_items_good (reply.NoVertex id) fits = (number_good id fits, tt)
reply_items_good (reply.EdgeIs source ordinal) fits = (number_good source fits.0, (number_good ordinal fits.1, tt))
reply_items_good (reply.Labels names) fits = names_good names fits
reply_items_good (reply.Props props) fits = all_good prop_text IsPropLine prop_good props fits
reply_items_good (reply.Value v) fits = (value_good v fits, tt)
reply_items_good (reply.Values vs) fits = all_good value_text IsValue value_good vs fits
reply_items_good (reply.Edges lines) fits = all_good edge_text IsEdgeLine edge_good lines fits
reply_items_good (reply.Ids ids) fits = all_good decimal IsNumber number_good ids fits
reply_items_good (reply.Levels pairs) fits = all_good pair_text IsPair pair_good pairs fits
reply_items_good (reply.Parts pairs) fits = all_good pair_text IsPair pair_good pairs fits
reply_items_good (reply.Count n) fits = (number_good n fits, tt)
reply_items_good r fits = tt

ending_good : (e : Ending) → IsEnding e → AllByRecursion IsGood (ending_words e)
ending_good (ending.Wrote k) fits = (plain_good _ refl, (number_good k fits, tt))
ending_good (ending.Read place) fits = (plain_good _ refl, (number_good place fits, tt))
ending_good ending.Aborted fits = (plain_good _ refl, tt)
ending_good (ending.Full rank place) fits = (plain_good _ refl, (number_good rank (omega (arith, fits.0)), (number_good place fits.1, tt)))

-- ---- a line and its words

words_of_good : (words : List (List ℕ)) → AllByRecursion IsGood words → AllByRecursion IsItemWord words
words_of_good [] all = tt
words_of_good (w ∷ words) all = (all.0.word, words_of_good words all.1)

spaced_print : (words : List (List ℕ)) → AllByRecursion IsGood words → Prints (flat_map spaced_word words)
spaced_print [] all = refl
spaced_print (w ∷ words) all = both_true (is_printable 32) _ refl (prints-append w (flat_map spaced_word words) all.0.prints (spaced_print words all.1))

-- a line of good words is cut into them, and has no control byte
pub record IsGoodLine (words : List (List ℕ)) : Type 0 where
  pub cut : IsCut (joined words) words
  pub prints : Prints (joined words)

good_line : (w : List ℕ) (words : List (List ℕ)) → IsGood w → AllByRecursion IsGood words → IsGoodLine (w ∷ words)
good_line w words first rest = record {
  cut = joined_cut w words first.word (words_of_good words rest);
  prints = prints-append w (flat_map spaced_word words) first.prints (spaced_print words rest);
}

pub said_good : (s : Said) → IsSaid s → IsGoodLine (said_words s)
said_good (said.Head h) fits = good_line (place_word h.section h.txn) (ending_words h.ending) (plain_good _ (two_plain 46 h.section h.txn refl fits.section fits.txn)) (ending_good h.ending fits.ending)
said_good (said.Reply r) fits = good_line [] (reply_word r ∷ reply_items r) (plain_good [] refl) (reply_word_good r, reply_items_good r fits)
said_good (said.Writes n) fits = good_line (codes "writes") (decimal n ∷ []) (plain_good _ refl) (number_good n fits, tt)

prints_no_end : (w : List ℕ) → Prints w → HasNoEnd w
prints_no_end [] prints = tt
prints_no_end (b ∷ w) prints =
    let parts = parts_true (is_printable b) _ prints in
    ((λ same. false≢true (sym (ap is_printable same) ∙ parts.0)), prints_no_end w parts.1)

pub said_no_end : (s : Said) → IsSaid s → HasNoEnd (said_line s)
said_no_end s fits = prints_no_end (said_line s) (said_good s fits).prints

-- ---- no two lines say the same

place_no_word : (section txn : ℕ) (w : List ℕ) → HasNo 46 w → w ≢ place_word section txn
place_no_word section txn w none same = no_split 46 (decimal section) (decimal txn) w none same

writes_lack : HasNo 46 (codes "writes")
writes_lack = (omega arith, (omega arith, (omega arith, (omega arith, (omega arith, (omega arith, tt))))))

first_same : {A : Type 0} (x y : A) (xs ys : List A) → x ∷ xs ≡ y ∷ ys → (x ≡ y) × (xs ≡ ys)
first_same x y xs ys same = (cc, cc)

-- the first words of two endings differ
other_words : (v w : List ℕ) (vs ws : List (List ℕ)) (a b : ℕ) (xs ys : List ℕ) → v ≡ a ∷ xs → w ≡ b ∷ ys → Rattle.std.proofs.Common.eqb a b ≡ false → v ∷ vs ≢ w ∷ ws
other_words v w vs ws a b xs ys x y differ same = heads_differ a b xs ys differ (sym x ∙ (first_same v w vs ws same).0 ∙ y)

ending_same : (d e : Ending) → IsEnding d → IsEnding e → ending_words d ≡ ending_words e → d ≡ e
ending_same (ending.Wrote k) (ending.Wrote n) a b same = ap ending.Wrote (decimal_injective k n a b (cc))
ending_same (ending.Read k) (ending.Read n) a b same = ap ending.Read (decimal_injective k n a b (cc))
ending_same ending.Aborted ending.Aborted a b same = refl
ending_same (ending.Full r p) (ending.Full s q) a b same =
    let e : r ≡ s = decimal_injective r s (omega (arith, a.0)) (omega (arith, b.0)) (cc) in
    let f : p ≡ q = decimal_injective p q a.1 b.1 (cc) in
    cc
ending_same (ending.Wrote k) (ending.Read n) a b same = absurd (other_words _ _ _ _ 119 114 _ _ refl refl refl same)
ending_same (ending.Wrote k) ending.Aborted a b same = absurd (other_words _ _ _ _ 119 97 _ _ refl refl refl same)
ending_same (ending.Wrote k) (ending.Full s q) a b same = absurd (other_words _ _ _ _ 119 102 _ _ refl refl refl same)
ending_same (ending.Read k) (ending.Wrote n) a b same = absurd (other_words _ _ _ _ 114 119 _ _ refl refl refl same)
ending_same (ending.Read k) ending.Aborted a b same = absurd (other_words _ _ _ _ 114 97 _ _ refl refl refl same)
ending_same (ending.Read k) (ending.Full s q) a b same = absurd (other_words _ _ _ _ 114 102 _ _ refl refl refl same)
ending_same ending.Aborted (ending.Wrote n) a b same = absurd (other_words _ _ _ _ 97 119 _ _ refl refl refl same)
ending_same ending.Aborted (ending.Read n) a b same = absurd (other_words _ _ _ _ 97 114 _ _ refl refl refl same)
ending_same ending.Aborted (ending.Full s q) a b same = absurd (other_words _ _ _ _ 97 102 _ _ refl refl refl same)
ending_same (ending.Full r p) (ending.Wrote n) a b same = absurd (other_words _ _ _ _ 102 119 _ _ refl refl refl same)
ending_same (ending.Full r p) (ending.Read n) a b same = absurd (other_words _ _ _ _ 102 114 _ _ refl refl refl same)
ending_same (ending.Full r p) ending.Aborted a b same = absurd (other_words _ _ _ _ 102 97 _ _ refl refl refl same)

head_same : (g h : Head) → IsHead g → IsHead h → said_words (said.Head g) ≡ said_words (said.Head h) → g ≡ h
head_same g h a b same =
    let parts = first_same _ _ _ _ same in
    let two = split_same 46 (decimal g.section) (decimal h.section) (decimal g.txn) (decimal h.txn) (number_lacks 46 g.section (inl (omega arith)) a.section) (number_lacks 46 h.section (inl (omega arith)) b.section) parts.0 in
    let section : g.section ≡ h.section = decimal_injective g.section h.section a.section b.section two.0 in
    let txn : g.txn ≡ h.txn = decimal_injective g.txn h.txn a.txn b.txn two.1 in
    let end : g.ending ≡ h.ending = ending_same g.ending h.ending a.ending b.ending parts.1 in
    ap (λ (x : ℕ). let k : Head = record { section = x; txn = g.txn; ending = g.ending } in k) section
    ∙ ap (λ (x : ℕ). let k : Head = record { section = h.section; txn = x; ending = g.ending } in k) txn
    ∙ ap (λ (x : Ending). let k : Head = record { section = h.section; txn = h.txn; ending = x } in k) end

words_same : (s t : Said) → IsSaid s → IsSaid t → said_words s ≡ said_words t → s ≡ t
words_same (said.Head g) (said.Head h) a b same = ap said.Head (head_same g h a b same)
words_same (said.Reply r) (said.Reply x) a b same =
    let parts = first_same _ _ _ _ (first_same _ _ _ _ same).1 in
    ap said.Reply (reply_same r x a b parts.0 parts.1)
words_same (said.Writes m) (said.Writes n) a b same = ap said.Writes (decimal_injective m n a b (cc))
words_same (said.Head g) (said.Reply x) a b same = absurd (place_no_word g.section g.txn [] tt (sym (first_same _ _ _ _ same).0))
words_same (said.Head g) (said.Writes n) a b same = absurd (place_no_word g.section g.txn _ writes_lack (sym (first_same _ _ _ _ same).0))
words_same (said.Reply r) (said.Head h) a b same = absurd (place_no_word h.section h.txn [] tt (first_same _ _ _ _ same).0)
words_same (said.Reply r) (said.Writes n) a b same = let e : [] ≡ codes "writes" = (first_same _ _ _ _ same).0 in absurd (cc)
words_same (said.Writes m) (said.Head h) a b same = absurd (place_no_word h.section h.txn _ writes_lack (first_same _ _ _ _ same).0)
words_same (said.Writes m) (said.Reply x) a b same = let e : codes "writes" ≡ [] = (first_same _ _ _ _ same).0 in absurd (cc)

pub line_same : (s t : Said) → IsSaid s → IsSaid t → said_line s ≡ said_line t → s ≡ t
line_same s t a b same =
    words_same s t a b (cut_same (said_line t) (said_words s) (said_words t) (subst (λ (x : List ℕ). IsCut x (said_words s)) same (said_good s a).cut) (said_good t b).cut)

-- ---- what words and lines say

-- what the words of a line say, the line says
pub line_says : (line : List ℕ) (words : List (List ℕ)) (read : Option Said) → IsCut line words → SaysOrNone words read → LineSays line read
line_says line words (Some s) is says = (says.0, cut_joins line words is ∙ ap joined says.1)
line_says line words None is says = λ s fits same. says s fits (cut_same line words (said_words s) is (subst (λ (x : List ℕ). IsCut x (said_words s)) (sym same) (said_good s fits).cut))

pub never_says : (line : List ℕ) → ((words : List (List ℕ)) → ¬ IsCut line words) → LineSays line None
never_says line none s fits same = none (said_words s) (subst (λ (x : List ℕ). IsCut x (said_words s)) (sym same) (said_good s fits).cut)

-- no words say nothing
pub nothing_says : SaysOrNone [] None
nothing_says (said.Head h) fits same = absurd (cc)
nothing_says (said.Reply r) fits same = absurd (cc)
nothing_says (said.Writes n) fits same = absurd (cc)

pub reply_says : (word : List ℕ) (items : List (List ℕ)) (r : Reply) → IsReplyOf word items r → SaysOrNone ([] ∷ word ∷ items) (Some (said.Reply r))
reply_says word items r is = (is.fits, let e : word ≡ reply_word r = is.word_is in let f : items ≡ reply_items r = is.items_are in cc)

pub no_reply_says : (word : List ℕ) (items : List (List ℕ)) → ((r : Reply) → ¬ IsReplyOf word items r) → SaysOrNone ([] ∷ word ∷ items) None
no_reply_says word items none (said.Head h) fits same = absurd (place_no_word h.section h.txn [] tt (first_same _ _ _ _ same).0)
no_reply_says word items none (said.Reply r) fits same =
    let parts = first_same _ _ _ _ (first_same _ _ _ _ same).1 in
    none r (record { fits = fits; word_is = parts.0; items_are = parts.1 })
no_reply_says word items none (said.Writes n) fits same = let e : [] ≡ codes "writes" = (first_same _ _ _ _ same).0 in absurd (cc)

pub empty_says : SaysOrNone ([] ∷ []) None
empty_says (said.Head h) fits same = absurd (place_no_word h.section h.txn [] tt (first_same _ _ _ _ same).0)
empty_says (said.Reply r) fits same = absurd (cc)
empty_says (said.Writes n) fits same = let e : [] ≡ codes "writes" = (first_same _ _ _ _ same).0 in absurd (cc)

pub no_writes_says : (words : List (List ℕ)) → ((n : ℕ) → IsNumber n → words ≢ decimal n ∷ []) → SaysOrNone (codes "writes" ∷ words) None
no_writes_says words none (said.Head h) fits same = absurd (place_no_word h.section h.txn _ writes_lack (first_same _ _ _ _ same).0)
no_writes_says words none (said.Reply r) fits same = let e : codes "writes" ≡ [] = (first_same _ _ _ _ same).0 in absurd (cc)
no_writes_says words none (said.Writes n) fits same = none n fits (first_same _ _ _ _ same).1

-- a first word that is neither empty nor the last line's says a head or nothing
pub no_head_says : (place : List ℕ) (words : List (List ℕ)) → place ≢ [] → place ≢ codes "writes" → ((h : Head) → IsHead h → place ∷ words ≢ said_words (said.Head h)) → SaysOrNone (place ∷ words) None
no_head_says place words not_reply not_writes none (said.Head h) fits same = none h fits same
no_head_says place words not_reply not_writes none (said.Reply r) fits same = not_reply (first_same _ _ _ _ same).0
no_head_says place words not_reply not_writes none (said.Writes n) fits same = not_writes (first_same _ _ _ _ same).0

pub no_place : (place : List ℕ) (words : List (List ℕ)) → ((m n : ℕ) → IsNumber m → IsNumber n → place ≢ decimal m ++ 46 ∷ decimal n) → (h : Head) → IsHead h → place ∷ words ≢ said_words (said.Head h)
no_place place words none h fits same = none h.section h.txn fits.section fits.txn (first_same _ _ _ _ same).0

pub no_ending : (place : List ℕ) (words : List (List ℕ)) → ((e : Ending) → IsEnding e → words ≢ ending_words e) → (h : Head) → IsHead h → place ∷ words ≢ said_words (said.Head h)
no_ending place words none h fits same = none h.ending fits.ending (first_same _ _ _ _ same).1

-- a reply that can't stand, where the line says it
pub reply_misplaced : (line : List ℕ) (r : Reply) (opened : Bool) → IsReply r → line ≡ said_line (said.Reply r) → opened ≡ false → (s : Said) → IsSaid s → line ≡ said_line s → may_stand opened s ≡ false
reply_misplaced line r opened fits is closed s also same =
    let e : s ≡ said.Reply r = line_same s (said.Reply r) also fits (sym same ∙ is) in
    ap (may_stand opened) e ∙ closed
