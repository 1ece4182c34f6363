-- The first of some tests that fails, and what the tests of records leave to read.
use Rattle.std.proofs.Common.{◌≡◌, ℕ, ◌<◌, ◌&&◌, Bool, true, false, List, ◌∷◌, arith, refl, inl, inr, Option}
use Rattle.std.specs.Prelude.{Some}
use Rattle.std.proofs.lemmas.Bool.{cases_eq}
use Rattle.bz_tree.specs.declared.rule.ShapeRule.{ShapeRule}
use Rattle.bz_slotted.specs.Page.{visible, Page}
use Rattle.bz_slotted.specs.Reads.{KeysAreRead, PointersAreRead}
use Rattle.bz_slotted.specs.Rules.{leaf_record_test, inner_record_test}
use Rattle.bz_slotted.specs.Tests.{Test, first_of, every}
use Rattle.bz_slotted.proofs.Deciding.{Decides-every}
use Rattle.bz_slotted.proofs.Faults.{held-visible}
use Rattle.bz_slotted.proofs.RecordTests.{LeafRecord, Decides-leaf_record, InnerRecord, Decides-inner_record}

pub skip : (t : Test) (ts : List Test) (r : Option ShapeRule) → t.passes ≡ true → first_of ts ≡ r → first_of (t ∷ ts) ≡ r
unfolding first_of
skip t ts r p h = rw p h

pub stop : (t : Test) (ts : List Test) → t.passes ≡ false → first_of (t ∷ ts) ≡ Some t.rule
unfolding first_of
stop t ts p = rw p refl

pub both : (a b : Bool) → a ≡ true → b ≡ true → a && b ≡ true
both a b p q = rw (p, q) refl

pub not-first : (a b : Bool) → a ≡ false → a && b ≡ false
not-first a b p = rw p refl

pub not-second : (a b : Bool) → a ≡ true → b ≡ false → a && b ≡ false
not-second a b p q = rw (p, q) refl

pub leaf-keys-read : (raw : ℕ → ℕ) (p : Page) → every p.count (leaf_record_test raw p) ≡ true → KeysAreRead p
leaf-keys-read raw p t j l v =
    let r = (Decides-every (leaf_record_test raw p) (LeafRecord raw p) (Decides-leaf_record raw p) p.count).0 t j l in
    record { ends = (r.inside (held-visible (p.meta j) v)).ends; short = r.lengths.short; packs = λ some. (r.key v).packs }

inner-record : (raw : ℕ → ℕ) (p : Page) → every p.count (inner_record_test raw p) ≡ true → (j : ℕ) → j < p.count → InnerRecord raw p j
inner-record raw p = (Decides-every (inner_record_test raw p) (InnerRecord raw p) (Decides-inner_record raw p) p.count).0

pub inner-keys-read : (raw : ℕ → ℕ) (p : Page) → every p.count (inner_record_test raw p) ≡ true → KeysAreRead p
inner-keys-read raw p t j l v =
    let r = inner-record raw p t j l in
    record {
      ends = (r.inside (held-visible (p.meta j) v)).ends;
      short = r.lengths.short;
      packs = λ some. elim (cases_eq j 0) [ inl e ↦ absurd (omega (arith, some, r.lengths.first e)) | inr ne ↦ (r.key (omega (arith, ne))).packs ];
    }

pub inner-shows : (raw : ℕ → ℕ) (p : Page) → every p.count (inner_record_test raw p) ≡ true → (j : ℕ) → j < p.count → visible (p.meta j) ≡ true
inner-shows raw p t j l = (inner-record raw p t j l).shows

pub pointers-read : (raw : ℕ → ℕ) (p : Page) → every p.count (inner_record_test raw p) ≡ true → PointersAreRead p
pointers-read raw p t j l =
    let r = inner-record raw p t j l in
    omega (arith, (r.inside (held-visible (p.meta j) r.shows)).ends, r.lengths.pointer)
