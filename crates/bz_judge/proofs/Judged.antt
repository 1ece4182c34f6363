-- The first fault of an image, by what was asked before the tree.
use Rattle.std.proofs.Common.{◌≡◌, ℕ, zero, suc, ◌+◌, ◌<◌, ◌≤◌, if◌then◌else◌, Bool, true, false, List, length, arith, refl, ap, ◌∙◌, inl, inr}
use Rattle.std.specs.Prelude.{Some, None, Ok, Err, Result, IfOk, IfErr, slice_index}
use Rattle.std.proofs.lemmas.Bool.{cases_eq}
use Rattle.bz_layout.specs.Addresses.{words_of}
use Rattle.bz_layout.specs.Config.{IsConfig}
use Rattle.bz_layout.specs.declared.config.Config.{Config}
use Rattle.bz_tree.specs.Walk.{fault_of}
use Rattle.bz_tree.specs.declared.rule.ShapeRule.TheVariants.{Super, Word}
use Rattle.bz_content.specs.Content.{image_fault, is_super, view_in}
use Rattle.bz_content.specs.Lawful.{is_lawful, first_unlawful}
use Rattle.bz_content.specs.declared.outcomes.CheckError.{CheckError}
use Rattle.bz_content.specs.declared.outcomes.CheckError.TheVariants.{Shape, Memory}
use Rattle.bz_content.specs.declared.outcomes.Shape.{Shape as Found}
use Rattle.bz_content.proofs.Proved.{well_formed_images_have_no_fault}
use Rattle.bz_judge.specs.Inside.Nodes.{IsScanned}
use Rattle.bz_judge.specs.Inside.Walking.{IsTold, IsTreeOf}
use Rattle.bz_judge.specs.Judgement.{IsShapeOf, IsFirstFault}
use Rattle.bz_judge.proofs.Counted.{counted}

all-lawful : (c : Config) (raw : ℕ → ℕ) (a n : ℕ) → first_unlawful c raw a n ≡ None → (i : ℕ) → a ≤ i → i < a + n → is_lawful c raw i ≡ true
unfolding first_unlawful
all-lawful c raw a zero e i from below = absurd (omega arith)
all-lawful c raw a (suc n) e i from below = go (is_lawful c raw a) refl e (all-lawful c raw (a + 1) n)
  where
    go : (b : Bool) → is_lawful c raw a ≡ b → (if b then first_unlawful c raw (a + 1) n else Some a) ≡ None
        → (first_unlawful c raw (a + 1) n ≡ None → (j : ℕ) → a + 1 ≤ j → j < a + 1 + n → is_lawful c raw j ≡ true) → is_lawful c raw i ≡ true
    go true p e rest = elim (cases_eq i a) [ inl q ↦ ap (is_lawful c raw) q ∙ p | inr ne ↦ rest e i (omega arith) (omega arith) ]
    go false p e rest = absurd (cc)

pub scanned : (c : Config) (image : List ℕ) → IsConfig c → length image ≡ words_of c → first_unlawful c (slice_index image) 0 (words_of c) ≡ None → IsScanned c image
scanned c image config size none = record { config = config; size = size; lawful = λ a less. all-lawful c (slice_index image) 0 (words_of c) none a (omega arith) (omega arith) }

pub of-super : (c : Config) (raw : ℕ → ℕ) → is_super c raw ≡ false → image_fault c raw ≡ Some (record { rule = Super; place = 0 })
unfolding image_fault
of-super c raw t = rw t refl

pub of-word : (c : Config) (raw : ℕ → ℕ) (a : ℕ) → is_super c raw ≡ true → first_unlawful c raw 0 (words_of c) ≡ Some a → image_fault c raw ≡ Some (record { rule = Word; place = a })
unfolding image_fault
of-word c raw a t e = rw (t, e) refl

of-tree : (c : Config) (raw : ℕ → ℕ) → is_super c raw ≡ true → first_unlawful c raw 0 (words_of c) ≡ None → image_fault c raw ≡ fault_of (view_in c raw)
unfolding image_fault
of-tree c raw t e = rw (t, e) refl

told : (c : Config) (image : List ℕ) (error : CheckError) → is_super c (slice_index image) ≡ true → first_unlawful c (slice_index image) 0 (words_of c) ≡ None → IsTold c image error → IsFirstFault c (slice_index image) error
told c image (Shape fault) t e h = of-tree c (slice_index image) t e ∙ h
told c image Memory t e h = tt

shape : (c : Config) (image : List ℕ) (s : Found) → is_super c (slice_index image) ≡ true → first_unlawful c (slice_index image) 0 (words_of c) ≡ None → IsTreeOf c image s → IsShapeOf c (slice_index image) s
shape c image s t e h =
    let none = of-tree c (slice_index image) t e ∙ h.none in
    record { none = none; pairs = h.pairs ∙ counted c (slice_index image) ((well_formed_images_have_no_fault c (slice_index image)).0 none).tree; levels = h.levels; reached = h.reached }

-- the answer of the walk is the answer of the check
pub shape-answer : (c : Config) (image : List ℕ) (r : Result Found CheckError) → is_super c (slice_index image) ≡ true → first_unlawful c (slice_index image) 0 (words_of c) ≡ None → IfOk r (IsTreeOf c image) → IfOk r (IsShapeOf c (slice_index image))
shape-answer c image (Ok s) t e h = shape c image s t e h
shape-answer c image (Err error) t e h = tt

pub told-answer : (c : Config) (image : List ℕ) (r : Result Found CheckError) → is_super c (slice_index image) ≡ true → first_unlawful c (slice_index image) 0 (words_of c) ≡ None → IfErr r (IsTold c image) → IfErr r (IsFirstFault c (slice_index image))
told-answer c image (Ok s) t e h = tt
told-answer c image (Err error) t e h = told c image error t e h
