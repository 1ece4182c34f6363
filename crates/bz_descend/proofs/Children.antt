-- The child of an inner node of the tree that a key belongs to is in the tree, with the key in its range.
use Rattle.std.proofs.Common.{◌≡◌, ◌≢◌, ℕ, ◌+◌, ◌<◌, ◌==◌, ◌&&◌, if◌then◌else◌, Bool, true, false, List, arith, refl, sym, ap, subst, ◌∙◌, inl, inr}
use Rattle.std.specs.Prelude.{nat_lt, Option, Some}
use Rattle.std.proofs.lemmas.Bool.Decides.{nat_tests}
use Rattle.bz_layout.specs.declared.config.Config.{Config}
use Rattle.bz_tree.specs.Form.{Fits, Stands}
use Rattle.bz_tree.specs.Order.{is_before, is_at_least, is_below}
use Rattle.bz_slotted.specs.Readers.{count_of, child_of, key_of}
use Rattle.bz_tree.proofs.Proved.{trees_have_forms}
use Rattle.bz_slotted.specs.Page.{page}
use Rattle.bz_slotted.specs.Records.{pointer_at}
use Rattle.bz_content.specs.Content.{IsWellFormed, view_in}
use Rattle.bz_content.proofs.Proved.{well_formed_images_have_no_fault}
use Rattle.bz_task.specs.Good.{IsGood}
use Rattle.bz_task.specs.Instant.{Instant, words, durable, page_at, form_at}
use Rattle.bz_task.proofs.Proved.{headers_say_the_level}
use Rattle.bz_descend.specs.Ways.{HasKey, Chooses}

pub no : (a b : ℕ) → a ≢ b → (a == b) ≡ false
no a b ne = grind (arith, nat_tests)

-- a tree has a form
pub fits : (c : Config) (x : Instant) → IsGood c x → Fits (view_in c x.image) (form_at c x)
fits c x g =
    let w : IsWellFormed c x.image = (well_formed_images_have_no_fault c x.image).0 g.form in
    trees_have_forms (view_in c x.image) w.tree.one w.tree.tall w.tree.none

count-is : (n : ℕ → ℕ) → count_of n ≡ (page n).count
unfolding count_of
count-is n = refl

child-is : (n : ℕ → ℕ) (i to : ℕ) → i < (page n).count → n (pointer_at (page n) i) ≡ to + 1 → child_of n i ≡ to
unfolding child_of
child-is n i to l e = let t : nat_lt i (page n).count ≡ true = grind (arith, nat_tests) in rw t (omega (arith, e))

-- the image has of an inner node what reads answer of it
pub inner-same : (c : Config) (x : Instant) (k : ℕ) → IsGood c x → x.reached k ≡ true → 0 < (page_at c x k).level → durable c x k ≡ words c x k
inner-same c x k g r l = λ t i. g.shown k i r (inr (inr (inl l))) t

both : (a b : Bool) → a ≡ true → b ≡ true → (a && b) ≡ true
both a b e f = rw (e, f) refl

pub low-part : (key own : List ℕ) (low : Option (List ℕ)) (i : ℕ) → is_at_least key low ≡ true → (0 < i → is_before key own ≡ false) → is_at_least key (if i == 0 then low else Some own) ≡ true
low-part key own low i h f = go (i == 0) refl
  where
    go : (b : Bool) → (i == 0) ≡ b → is_at_least key (if b then low else Some own) ≡ true
    go true e = h
    go false e = rw (f (grind (arith, nat_tests))) refl

pub high-part : (key next : List ℕ) (high : Option (List ℕ)) (i count : ℕ) → i < count → is_below key high ≡ true → (i + 1 < count → is_before key next ≡ true) → is_below key (if i + 1 == count then high else Some next) ≡ true
high-part key next high i count l h f = go (i + 1 == count) refl
  where
    go : (b : Bool) → (i + 1 == count) ≡ b → is_below key (if b then high else Some next) ≡ true
    go true e = h
    go false e = f (grind (arith, nat_tests))

-- the child of a node is in the tree, with the key in its range, one level lower
pub record HasChild (key : List ℕ) (c : Config) (x : Instant) (k to : ℕ) : Type 0 where
  pub has : HasKey key c x to
  pub level : (page_at c x to).level + 1 ≡ (page_at c x k).level

pub child-has-key : (key : List ℕ) (c : Config) (x : Instant) (k i to : ℕ) → IsGood c x →
    HasKey key c x k → 0 < (page_at c x k).level → Chooses key (words c x k) i → words c x k (pointer_at (page_at c x k) i) ≡ to + 1 → HasChild key c x k to
child-has-key key c x k i to g h inner ch e =
    let v = view_in c x.image in
    let f : Fits (view_in c x.image) (form_at c x) = fits c x g in
    let ne : k ≢ c.nodes = λ q. omega (arith, q, h.slot) in
    let level : (form_at c x).level k ≡ (page_at c x k).level = sym (headers_say_the_level c x k g ne h.inside).level in
    let same : durable c x k ≡ words c x k = inner-same c x k g (g.inside k h.inside ne) inner in
    let count : v.count k ≡ (page_at c x k).count = rw (no k c.nodes ne) (ap count_of same ∙ count-is (words c x k)) in
    let child : v.child k i ≡ to = rw (no k c.nodes ne) (ap (λ n. child_of n i) same ∙ child-is (words c x k) i to ch.counted e) in
    let own : (j : ℕ) → v.key k j ≡ key_of (words c x k) j = λ j. rw (no k c.nodes ne) (ap (λ n. key_of n j) same) in
    let s : Stands (view_in c x.image) (form_at c x) k i to = subst (λ z. Stands (view_in c x.image) (form_at c x) k i z) child (f.down k i h.inside (omega (arith, inner, level)) (omega (arith, ch.counted, count))) in
    let lower : (form_at c x).level k < v.height = (f.hangs k h.inside ne).lower in
    let below : to ≢ c.nodes = λ q. omega (arith, s.level, lower, f.height, ap (λ z. (form_at c x).level z) q) in
    record {
      has = record {
        slot = g.slots to (g.inside to s.inside below);
        inside = s.inside;
        low = subst (λ b. is_at_least key b ≡ true) (sym s.low) (low-part key (v.key k i) ((form_at c x).low k) i h.low (λ p. ap (is_before key) (own i) ∙ ch.from p));
        high = subst (λ b. is_below key b ≡ true) (sym s.high) (high-part key (v.key k (i + 1)) ((form_at c x).high k) i (v.count k) (omega (arith, ch.counted, count)) h.high (λ p. ap (is_before key) (own (i + 1)) ∙ ch.to (omega (arith, p, count))));
      };
      level = omega (arith, (headers_say_the_level c x to g below s.inside).level, s.level, level);
    }
