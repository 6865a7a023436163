-- The header of a sheet: its sizes, refusals 1 to 4, and what a sheet that passed them has.
use Rattle.std.specs.Prelude.{◌≡◌, refl, List, ℕ, ◌+◌, ◌*◌, ltb, length, Option, Some, None}
use Rattle.std.proofs.Common.{sym, ap, eqb-true}
use Rattle.std.proofs.Math.Path.{transport}
use Rattle.std.proofs.Math.Option.{none}
use Rattle.std.proofs.lemmas.Bool.{not-false}
use Rattle.rules.specs.Sheet.{header_length, sheet_of}
use Rattle.rules.specs.Refusals.{sizes_refusal}
use Rattle.proof_laws.specs.Read.{Read, gives, refused, unless}
use Rattle.proof_laws.specs.Sizes.{SizesInRange, dimensions}
use Rattle.proof_laws.specs.NotRefused.{otherwise-none, refuse-false}
use Rattle.sheet_header.specs.declared.Header.{Header}

-- ---- reading it
-- the header of a sheet's bytes
abbrev pub header_of : List ℕ → Header
header_of s = record { sizes = (sheet_of s).sizes; entries = (sheet_of s).entries; length = header_length }

-- what each answer stands for: a header, or refusal 1
unfoldable pub header_answered : Option Header → Read Header
header_answered (Some header) = gives header
header_answered None = refused 1

unfoldable pub header_read : List ℕ → Read Header
header_read s = unless 1 (ltb (length s) header_length) (gives (header_of s))

-- a header that was read of these bytes
pub record HasHeader (s : List ℕ) (h : Header) : Type 0 where
  pub is : h ≡ header_of s

module _ {s : List ℕ} {h : Header} (read : HasHeader s h) where
  pub entries-is : h.entries ≡ (sheet_of s).entries
  entries-is = ap (λ (g : Header). g.entries) read.is

  pub keys-begin : h.length ≡ header_length
  keys-begin = ap (λ (g : Header). g.length) read.is

-- ---- what a sheet that passed refusals 2 to 4 has, in the words of its header
pub record Headed (s : List ℕ) (h : Header) : Type 0 where
  pub header : HasHeader s h
  pub passed : sizes_refusal (sheet_of s) (length s) ≡ none
  pub in-range : SizesInRange h.sizes.shape h.entries
  pub long : length s ≡ h.length + 2 * h.entries + 4 * h.entries

pub headed : (s : List ℕ) {h : Header} → h ≡ header_of s → sizes_refusal (sheet_of s) (length s) ≡ none → Headed s h
unfolding sizes_refusal
headed s {h} e passed =
    let (first, later) = otherwise-none _ _ passed in
    let (second, last) = otherwise-none _ _ later in
    let sizes = dimensions (sheet_of s).sizes.shape (sheet_of s).entries (not-false _ (refuse-false 2 0 _ first)) in
    let long = eqb-true _ _ (not-false _ (refuse-false 3 0 _ second)) in
    transport (λ j. Headed s (sym e j))
    (record { header = record { is = refl }; passed = passed; in-range = sizes; long = long })

-- ---- and in the words of the sheet
pub sheet-in-range : {s : List ℕ} {h : Header} → Headed s h
    → SizesInRange (sheet_of s).sizes.shape (sheet_of s).entries
sheet-in-range p = transport (λ j. let g = p.header.is j in SizesInRange g.sizes.shape g.entries) p.in-range
