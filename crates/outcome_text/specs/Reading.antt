-- How an output is read, line by line.
use Rattle.std.specs.Prelude.{◌≡◌, ◌≢◌, ℕ, ◌^◌, ◌<◌, Bool, true, false, not, List, [], ◌∷◌, ◌++◌, ◌⊎◌, ◌||◌, ◌==◌, map, codes, Option, Some, None}
use Rattle.std.specs.List.{flat_map, AllByRecursion}
use Rattle.std.specs.Fmt.{decimal}
use Rattle.gdi_kinds.specs.declared.reply.Reply.{Reply}
use Rattle.gdi_kinds.specs.declared.outcome.Outcome.{Outcome}
use Rattle.gdi_kinds.specs.declared.outcome.Outcome.TheVariants as outcome
use Rattle.gdi_kinds.specs.declared.outcome.Line.{Line}
use Rattle.outcome_text.specs.declared.reply_word.ReplyWord.{ReplyWord}
use Rattle.outcome_text.specs.declared.reply_word.ReplyWord.TheVariants as word
use Rattle.outcome_text.specs.declared.said.Said.{Said}
use Rattle.outcome_text.specs.declared.said.Said.TheVariants as said
use Rattle.outcome_text.specs.declared.said.Head.{Head}
use Rattle.outcome_text.specs.declared.said.Ending.{Ending}
use Rattle.outcome_text.specs.declared.said.Ending.TheVariants as ending
use Rattle.outcome_text.specs.declared.said_reader.EndingWord.{EndingWord}
use Rattle.outcome_text.specs.declared.said_reader.EndingWord.TheVariants as end
use Rattle.outcome_text.specs.declared.output_reader.Reader.{Reader}
use Rattle.outcome_text.specs.declared.output_reader.Passed.{Passed}
use Rattle.outcome_text.specs.declared.output_reader.Passed.TheVariants as passed
use Rattle.text_words.specs.Spelling.{quoted_byte}
use Rattle.outcome_text.specs.Outputs.{reply_word, reply_items}
use Rattle.outcome_text.specs.Runs.{IsNumber, IsReply}
use Rattle.outcome_text.specs.WrongLine.{ended}

-- ---- words

-- no space and no quote
abbrev pub HasNoMark : List ℕ → Type 0
HasNoMark bytes = AllByRecursion (λ (b : ℕ). (b ≢ 32) × (b ≢ 34)) bytes

abbrev pub is_mark : ℕ → Bool
is_mark b = b == 32 || b == 34

-- a quote stands in front of any space, and this behind it
abbrev pub OpensQuote : List ℕ → List ℕ → Type 0
OpensQuote line quoted = (front : List ℕ) × HasNoMark front × (line ≡ front ++ 34 ∷ quoted)

-- nothing, or a quoted text
abbrev pub IsQuoteOrNone : List ℕ → Type 0
IsQuoteOrNone q = (q ≡ []) ⊎ ((bytes : List ℕ) × (q ≡ 34 ∷ (flat_map quoted_byte bytes ++ 34 ∷ [])))

-- a word of output: behind what has no space and no quote stands a quoted text, or nothing
pub record IsItemWord (w : List ℕ) : Type 0 where
  pub front : List ℕ
  pub quote : List ℕ
  pub plain : HasNoMark front
  pub quoted : IsQuoteOrNone quote
  pub is : w ≡ front ++ quote

-- what stands behind a word
abbrev pub tail : Option (List ℕ) → List ℕ
tail None = []
tail (Some rest) = 32 ∷ rest

-- a line begins with a word, and this follows it
pub record HasFirst (line w : List ℕ) (behind : Option (List ℕ)) : Type 0 where
  pub word : IsItemWord w
  pub line_is : line ≡ w ++ tail behind

-- the words of a line, from the left
abbrev pub IsCut : List ℕ → List (List ℕ) → Type 0
IsCut line [] = ⊥
IsCut line (w ∷ []) = HasFirst line w None
IsCut line (w ∷ next ∷ words) = (rest : List ℕ) × HasFirst line w (Some rest) × IsCut rest (next ∷ words)

-- the line has these words, or it has none
abbrev pub IsCutOrNone : Bool → List ℕ → List (List ℕ) → Type 0
IsCutOrNone true line words = IsCut line words
IsCutOrNone false line words = (others : List (List ℕ)) → ¬ IsCut line others

-- a byte stands nowhere in bytes
abbrev pub HasNo : ℕ → List ℕ → Type 0
HasNo byte bytes = AllByRecursion (λ (b : ℕ). b ≢ byte) bytes

abbrev pub IsNoDigit : ℕ → Type 0
IsNoDigit byte = (byte < 48) ⊎ (57 < byte)

-- words with one space between each two
abbrev pub spaced_word : List ℕ → List ℕ
spaced_word w = 32 ∷ w

abbrev pub joined : List (List ℕ) → List ℕ
joined [] = []
joined (w ∷ words) = w ++ flat_map spaced_word words

-- ---- what a line says

abbrev pub text_of_word : ReplyWord → List ℕ
text_of_word word.Done = codes "done"
text_of_word word.Yes = codes "yes"
text_of_word word.No = codes "no"
text_of_word word.Exists = codes "exists"
text_of_word word.NoVertex = codes "novertex"
text_of_word word.NoEdge = codes "noedge"
text_of_word word.NoLabel = codes "nolabel"
text_of_word word.NoType = codes "notype"
text_of_word word.NoProp = codes "noprop"
text_of_word word.WrongKind = codes "wrongkind"
text_of_word word.NotMany = codes "notmany"
text_of_word word.HasLabel = codes "haslabel"
text_of_word word.LacksLabel = codes "lackslabel"
text_of_word word.TooLarge = codes "toolarge"
text_of_word word.EdgeIs = codes "edge"
text_of_word word.Labels = codes "labels"
text_of_word word.Props = codes "props"
text_of_word word.Value = codes "value"
text_of_word word.Values = codes "values"
text_of_word word.Edges = codes "edges"
text_of_word word.Ids = codes "ids"
text_of_word word.Levels = codes "levels"
text_of_word word.Parts = codes "parts"
text_of_word word.Count = codes "count"

-- a reply of this word, with these items
pub record IsReplyOf (word : List ℕ) (items : List (List ℕ)) (r : Reply) : Type 0 where
  pub fits : IsReply r
  pub word_is : word ≡ reply_word r
  pub items_are : items ≡ reply_items r

-- the word and the items behind it spell this reply, or none
abbrev pub ReadsReply : List ℕ → List (List ℕ) → Option Reply → Type 0
ReadsReply word items (Some r) = IsReplyOf word items r
ReadsReply word items None = (r : Reply) → ¬ IsReplyOf word items r

-- the words that list items
abbrev pub is_list_word : ReplyWord → Bool
is_list_word word.Labels = true
is_list_word word.Props = true
is_list_word word.Values = true
is_list_word word.Edges = true
is_list_word word.Ids = true
is_list_word word.Levels = true
is_list_word word.Parts = true
is_list_word w = false

-- the words behind which nothing stands
abbrev pub is_plain_word : ReplyWord → Bool
is_plain_word word.NoVertex = false
is_plain_word word.EdgeIs = false
is_plain_word word.Value = false
is_plain_word word.Count = false
is_plain_word w = not (is_list_word w)

abbrev pub text_of_ending : EndingWord → List ℕ
text_of_ending end.Wrote = codes "w"
text_of_ending end.Read = codes "r"
text_of_ending end.Aborted = codes "aborted"
text_of_ending end.Full = codes "full"

abbrev pub ending_words : Ending → List (List ℕ)
ending_words (ending.Wrote k) = codes "w" ∷ decimal k ∷ []
ending_words (ending.Read place) = codes "r" ∷ decimal place ∷ []
ending_words ending.Aborted = codes "aborted" ∷ []
ending_words (ending.Full rank place) = codes "full" ∷ decimal rank ∷ decimal place ∷ []

abbrev pub IsEnding : Ending → Type 0
IsEnding (ending.Wrote k) = IsNumber k
IsEnding (ending.Read place) = IsNumber place
IsEnding ending.Aborted = Unit {0}
IsEnding (ending.Full rank place) = (rank < 2 ^ 16) × IsNumber place

abbrev pub place_word : ℕ → ℕ → List ℕ
place_word section txn = decimal section ++ 46 ∷ decimal txn

pub record IsHead (h : Head) : Type 0 where
  pub section : IsNumber h.section
  pub txn : IsNumber h.txn
  pub ending : IsEnding h.ending

-- the words of a line, by what it says
abbrev pub said_words : Said → List (List ℕ)
said_words (said.Head h) = place_word h.section h.txn ∷ ending_words h.ending
said_words (said.Reply r) = [] ∷ reply_word r ∷ reply_items r
said_words (said.Writes n) = codes "writes" ∷ decimal n ∷ []

abbrev pub IsSaid : Said → Type 0
IsSaid (said.Head h) = IsHead h
IsSaid (said.Reply r) = IsReply r
IsSaid (said.Writes n) = IsNumber n

abbrev pub said_line : Said → List ℕ
said_line s = joined (said_words s)

abbrev pub said_text : Said → List ℕ
said_text s = ended (said_line s)

-- the words say this, or nothing
abbrev pub SaysOrNone : List (List ℕ) → Option Said → Type 0
SaysOrNone words (Some s) = IsSaid s × (words ≡ said_words s)
SaysOrNone words None = (s : Said) → IsSaid s → words ≢ said_words s

-- the line says this, or nothing
abbrev pub LineSays : List ℕ → Option Said → Type 0
LineSays line (Some s) = IsSaid s × (line ≡ said_line s)
LineSays line None = (s : Said) → IsSaid s → line ≢ said_line s

-- ---- what has been read

abbrev pub replies_of : Outcome → List Reply
replies_of (outcome.Wrote k replies) = replies
replies_of (outcome.Read place replies) = replies
replies_of o = []

abbrev pub ending_of : Outcome → Ending
ending_of (outcome.Wrote k replies) = ending.Wrote k
ending_of (outcome.Read place replies) = ending.Read place
ending_of outcome.Aborted = ending.Aborted
ending_of (outcome.Full rank place) = ending.Full rank place

-- what the lines of an outcome say
abbrev pub said_of_line : Line → List Said
said_of_line line = said.Head (record { section = line.section; txn = line.txn; ending = ending_of line.outcome }) ∷ map said.Reply (replies_of line.outcome)

-- what the lines of the open outcome say
abbrev pub open_said : Option Head → List Reply → List Said
open_said None replies = []
open_said (Some h) replies = said.Head h ∷ map said.Reply replies

abbrev pub said_in : Reader → List Said
said_in r = flat_map said_of_line r.lines ++ open_said r.head r.replies

abbrev pub takes_replies : Ending → Bool
takes_replies (ending.Wrote k) = true
takes_replies (ending.Read place) = true
takes_replies e = false

-- whether a reply may stand next
abbrev pub is_open : Option Head → Bool
is_open None = false
is_open (Some h) = takes_replies h.ending

abbrev pub may_stand : Bool → Said → Bool
may_stand opened (said.Reply r) = opened
may_stand opened s = true

abbrev pub outcome_from : Ending → List Reply → Outcome
outcome_from (ending.Wrote k) replies = outcome.Wrote k replies
outcome_from (ending.Read place) replies = outcome.Read place replies
outcome_from ending.Aborted replies = outcome.Aborted
outcome_from (ending.Full rank place) replies = outcome.Full rank place

abbrev pub line_from : Head → List Reply → Line
line_from h replies = record { section = h.section; txn = h.txn; outcome = outcome_from h.ending replies }

-- the open outcome, where there is one
abbrev pub open_line : Option Head → List Reply → List Line
open_line None replies = []
open_line (Some h) replies = line_from h replies ∷ []

abbrev pub lines_in : Reader → List Line
lines_in r = r.lines ++ open_line r.head r.replies

-- what has been read with one line more
abbrev pub with_said : Reader → Said → Reader
with_said r (said.Head h) = record { lines = lines_in r; head = Some h; replies = [] }
with_said r (said.Reply x) = record r { replies = r.replies ++ x ∷ [] }
with_said r (said.Writes n) = r

-- what became of a line
abbrev pub IsPassed : Reader → List ℕ → Passed → Reader → Type 0
IsPassed was line passed.On now = (s : Said) × (IsSaid s × (line ≡ said_line s) × (may_stand (is_open was.head) s ≡ true) × ((n : ℕ) → s ≢ said.Writes n) × (now ≡ with_said was s))
IsPassed was line (passed.Ends n) now = IsNumber n × (line ≡ said_line (said.Writes n)) × (now ≡ was)
IsPassed was line passed.Wrong now = (s : Said) → IsSaid s → line ≡ said_line s → may_stand (is_open was.head) s ≡ false
