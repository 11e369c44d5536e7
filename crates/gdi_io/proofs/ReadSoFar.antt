-- What a loop of reads keeps.
use Rattle.std.proofs.Common.{◌≡◌, ℕ, ◌+◌, ◌-◌, ◌<◌, ◌≤◌, false, List, [], ◌++◌, length, take, drop, IfSome, Some, ◌↔◌, Ok, Err, refl, sym, ◌∙◌, ap, arith, append_assoc, length-append}
use Rattle.std.proofs.lemmas.List.{take-append-drop, append-nil, length-take-le}
use Rattle.std.proofs.lemmas.Option.{IfSome_then}
use Rattle.gdi_io.specs.declared.refused.ReadRefused.TheVariants.{Failed, TooLong, NoMemory}
use Rattle.gdi_io.specs.Files.{file_place, bytes_of}
use Rattle.gdi_io.specs.Shelf.{Told, Selects, Reads}
use Rattle.gdi_io.specs.Whole.{longest_file, ReadsAll}

-- these bytes are the front of a file, where told what is left of it
abbrev pub IsFront : Told → List ℕ → List ℕ → Type 0
IsFront now bytes whole = (rest : List ℕ) × (now.left ≡ Some rest) × (bytes ++ rest ≡ whole)

-- these bytes have come of the file of this name
pub record HasRead (old now : Told) (name bytes : List ℕ) : Type 0 where
  pub later : old.faults ≤ now.faults
  pub going : now.halted ≡ false
  pub given : now.given ≡ length bytes
  pub short : length bytes ≤ longest_file
  pub files : now.files ≡ old.files
  pub at : IfSome old.files (λ files. now.at ≡ Some (file_place files name))
  pub left : IfSome old.files (λ files. IsFront now bytes (bytes_of files name))

-- a file was selected
pub has_selected : {E : Type 0} (old now : Told) (name : List ℕ) → Selects {T = Unit {0}} {E = E} old now name (Ok tt) → HasRead old now name []
has_selected old now name s = record {
  later = s.cause.later;
  going = s.halted;
  given = s.given;
  short = omega arith;
  files = s.files;
  at = s.at;
  left = IfSome_then old.files s.left (λ files h. (bytes_of files name, h, refl));
}

-- one more piece
front_on : {E : Type 0} (now new : Told) (bytes piece whole : List ℕ) (n : ℕ) → Reads {E = E} now new piece (Ok n) → IsFront now bytes whole → IsFront new (bytes ++ take n piece) whole
front_on now new bytes piece whole n r (rest, e, f) =
    let front : take n piece ≡ take n rest = rw e at r.front in
    let left : new.left ≡ Some (drop n rest) = rw e at r.left in
    (drop n rest, left, rw (append_assoc bytes (take n piece) (drop n rest), front, take-append-drop n rest) f)

pub has_read_on : {E : Type 0} (old now new : Told) (name bytes piece : List ℕ) (n : ℕ) → HasRead old now name bytes → Reads {E = E} now new piece (Ok n) → n ≤ longest_file - length bytes → HasRead old new name (bytes ++ take n piece)
has_read_on old now new name bytes piece n h r le =
    let taken : length (take n piece) ≡ n = length-take-le n piece r.bound in
    let len : length (bytes ++ take n piece) ≡ length bytes + n = length-append bytes (take n piece) ∙ ap (λ k. length bytes + k) taken in
    record {
      later = omega arith;
      going = r.halted;
      given = rw len (omega arith);
      short = rw len (omega arith);
      files = r.files ∙ h.files;
      at = rw r.at h.at;
      left = IfSome_then old.files h.left (λ files f. front_on now new bytes piece (bytes_of files name) n r f);
    }

-- the end: what has come is the whole
whole_at_end : {E : Type 0} (now new : Told) (bytes piece whole : List ℕ) → Reads {E = E} now new piece (Ok 0) → IsFront now bytes whole → bytes ≡ whole
whole_at_end now new bytes piece whole r (rest, e, f) =
    let ended : (◌≡◌ {A = ℕ} 0 0) ↔ (rest ≡ []) = rw e at r.ended in
    sym (append-nil bytes) ∙ ap (λ more. bytes ++ more) (sym (ended.0 refl)) ∙ f

pub has_read_all : {E : Type 0} (old now new : Told) (name bytes piece : List ℕ) → HasRead old now name bytes → Reads {E = E} now new piece (Ok 0) → ReadsAll old new name (Ok bytes)
has_read_all old now new name bytes piece h r = record {
  later = omega arith;
  files = r.files ∙ h.files;
  whole = IfSome_then old.files h.left (λ files f. whole_at_end now new bytes piece (bytes_of files name) r f);
  short = h.short;
  given = omega arith;
  failed = λ e. absurd (cc);
  halted = λ e. absurd (cc);
  halted_only = λ t. absurd (cc);
  too_long = (λ e. absurd (cc), λ lt. absurd (omega arith));
  longer = λ e. absurd (cc);
}

-- a failure
pub has_failed : {E : Type 0} (e : E) (old now new : Told) (name bytes piece : List ℕ) → HasRead old now name bytes → Reads {E = E} now new piece (Err e) → ReadsAll old new name (Err Failed)
has_failed e old now new name bytes piece h r = record {
  later = omega arith;
  files = r.files ∙ h.files;
  whole = tt;
  short = tt;
  given = tt;
  failed = λ _. omega arith;
  halted = λ _. record { halted = r.halted; at = rw (r.at, r.files, h.files) h.at };
  halted_only = λ _. refl;
  too_long = (λ e. absurd (cc), λ lt. absurd (omega arith));
  longer = λ e. absurd (cc);
}

-- a byte too many
longer_than : {E : Type 0} (now new : Told) (bytes piece whole : List ℕ) (n : ℕ) → Reads {E = E} now new piece (Ok n) → length bytes ≤ longest_file → longest_file - length bytes < n → IsFront now bytes whole → longest_file < length whole
longer_than now new bytes piece whole n r short lt (rest, e, f) =
    let most : n ≤ length rest = rw e at r.whole in
    omega (arith, length-append bytes rest, ap length f)

pub has_too_many : {E : Type 0} (old now new : Told) (name bytes piece : List ℕ) (n : ℕ) → HasRead old now name bytes → Reads {E = E} now new piece (Ok n) → longest_file - length bytes < n → ReadsAll old new name (Err TooLong)
has_too_many old now new name bytes piece n h r lt = record {
  later = omega arith;
  files = r.files ∙ h.files;
  whole = tt;
  short = tt;
  given = tt;
  failed = λ e. absurd (cc);
  halted = λ e. absurd (cc);
  halted_only = λ t. absurd (cc);
  too_long = (λ _. omega arith, λ _. refl);
  longer = λ _. IfSome_then old.files h.left (λ files f. longer_than now new bytes piece (bytes_of files name) n r h.short lt f);
}

-- no memory
pub has_no_memory : (old now : Told) (name bytes : List ℕ) → HasRead old now name bytes → ReadsAll old now name (Err NoMemory)
has_no_memory old now name bytes h = record {
  later = h.later;
  files = h.files;
  whole = tt;
  short = tt;
  given = tt;
  failed = λ e. absurd (cc);
  halted = λ e. absurd (cc);
  halted_only = λ t. absurd (cc);
  too_long = (λ e. absurd (cc), λ lt. absurd (omega arith));
  longer = λ e. absurd (cc);
}
