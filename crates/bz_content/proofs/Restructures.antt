-- Splits and merges, told of words, are those of slots.
use Rattle.std.proofs.Common.{◌≡◌, ◌≢◌, ℕ, ◌==◌, if◌then◌else◌, ◌⊎◌, true, false, List, [], ◌∷◌, arith, refl, sym, ap, subst, ◌∙◌, inl, inr}
use Rattle.std.proofs.lemmas.Bool.{cases_eq}
use Rattle.std.proofs.lemmas.Bool.Decides.{nat_tests}
use Rattle.bz_layout.specs.declared.config.Config.{Config}
use Rattle.bz_tree.specs.Form.{Form, Fits, Hangs}
use Rattle.bz_tree.specs.Order.{is_before}
use Rattle.bz_tree.specs.Slots.{SameTop, Children, children, Wider, Halves}
use Rattle.bz_tree.specs.Split.{Split}
use Rattle.bz_tree.specs.Walk.{is_among}
use Rattle.bz_tree.proofs.Proved.{splits_keep_the_content}
use Rattle.bz_slotted.specs.Readers.{level_of, count_of, child_of, key_of}
use Rattle.bz_content.specs.Image.{Image, node, root}
use Rattle.bz_content.specs.Laws.{Turned, SplitsKeepTheContent}
use Rattle.bz_content.specs.Restructures.{children_of}
use Rattle.bz_content.specs.Swaps.{form_in}
use Rattle.bz_content.specs.View.{view_of}
use Rattle.bz_content.proofs.Honesty.{no, honest}
use Rattle.bz_content.proofs.Reached.{is, fits, root-stands, level-is, level-at}
use Rattle.bz_content.proofs.Turns.{links-turned}

-- what the words of a slot tell of its children is what the view does
pub seen : (c : Config) (x : Image) (k : ℕ) → k ≢ c.nodes → children_of (node c x.words k) ≡ children (view_of c x) k
seen c x k ne = λ t. record {
  count = if sym (no k c.nodes ne) t then 1 else count_of (node c x.words k);
  child = λ i. if sym (no k c.nodes ne) t then (if i == 0 then root x.words else 0) else child_of (node c x.words k) i;
  key = λ i. if sym (no k c.nodes ne) t then [] else key_of (node c x.words k) i;
}

-- what holds of two nodes' children holds of them as they are seen
pub moved : (P : Children → Children → Type 0) {a b d e : Children} → a ≡ b → d ≡ e → P a d → P b e
moved P {a = a} {e = e} p q h = subst (λ z. P z e) p (subst (λ z. P a z) q h)

-- a slot that was not reached is not the superblock
pub not-top : (c : Config) (x : Image) (k : ℕ) → Fits (view_of c x) (form_in c x) → (form_in c x).inside k ≡ false → k ≢ c.nodes
not-top c x k g fresh e = absurd (grind (arith, sym fresh ∙ ap (form_in c x).inside e ∙ g.top))

-- where a node that takes another's place stands at its level, the trees have one height
pub heights : (c : Config) (x y : Image) (p g i q : ℕ) (gone : List ℕ) → Fits (view_of c x) (form_in c x) → Turned c x y g i q gone
    → (form_in c x).inside p ≡ true → p ≢ c.nodes → (form_in c x).up p ≡ g → is_among gone (root x.words) ≡ false ⊎ (root x.words ≡ p) → i ≡ (form_in c x).index p
    → level_of (node c y.words q) ≡ (form_in c x).level p → SameTop (view_of c x) (view_of c y)
heights c x y p g i q gone fit turned ins ne up stays at level = go (cases_eq g c.nodes)
  where
    hangs : Hangs (view_of c x) (form_in c x) p
    hangs = fit.hangs p ins ne

    root_is : g ≡ c.nodes → root x.words ≡ p
    root_is e =
        let top : (form_in c x).up p ≡ c.nodes = up ∙ e in
        let one : (view_of c x).count ((form_in c x).up p) ≡ 1 = ap (view_of c x).count top ∙ rw (is c.nodes) refl in
        let first : (form_in c x).index p ≡ 0 = omega (arith, hangs.within, one) in
        sym (rw (is c.nodes) refl) ∙ (λ z. (view_of c x).child (sym top z) (sym first z)) ∙ hangs.child

    go : (g ≡ c.nodes) ⊎ (g ≢ c.nodes) → SameTop (view_of c x) (view_of c y)
    go (inl e) = turned.at_root e (level ∙ sym (ap (λ k. level_of (node c x.words k)) (root_is e) ∙ level-at c x p fit ins ne))
    go (inr n) = turned.below_root n (elim stays [
      | inl far ↦ far
      | inr e ↦ absurd (n (sym up ∙ ap (form_in c x).up (sym e) ∙ (root-stands c x fit).up))
    ])

pub splits : SplitsKeepTheContent
splits c x y a q l r m sep t s =
    splits_keep_the_content (view_of c x) (view_of c y) a q l r m sep t (honest c y) swap s.three (λ key leaf before. left key leaf before, λ key leaf from. right key leaf from)
  where
    f : Form
    f = form_in c x

    g : Fits (view_of c x) f
    g = fits c x t

    oa : Hangs (view_of c x) f a
    oa = g.hangs a s.inside s.not_top

    turned : Turned c x y (f.up (f.up a)) (f.index (f.up a)) q (a ∷ f.up a ∷ [])
    turned = links-turned c x y (f.up (f.up a)) (f.index (f.up a)) q (a ∷ f.up a ∷ []) t s.link

    q_below : q ≢ c.nodes
    q_below = not-top c x q g s.fresh_q

    l_below : l ≢ c.nodes
    l_below = not-top c x l g s.fresh_l

    r_below : r ≢ c.nodes
    r_below = not-top c x r g s.fresh_r

    root_far : (root x.words ≡ f.up a) ⊎ (root x.words ≢ f.up a) → is_among (a ∷ f.up a ∷ []) (root x.words) ≡ false ⊎ (root x.words ≡ f.up a)
    root_far (inl e) = inr e
    root_far (inr n) = let na : root x.words ≢ a = (λ e. s.deep (ap f.up (sym e) ∙ (root-stands c x g).up)) in inl (grind (arith, nat_tests))

    swap : Split (view_of c x) (view_of c y) f a q l r m sep
    swap = record {
      same_top = heights c x y (f.up a) (f.up (f.up a)) (f.index (f.up a)) q (a ∷ f.up a ∷ []) g turned oa.inside s.deep refl (root_far (cases_eq (root x.words) (f.up a))) refl
          (level-is c.nodes _ (node c y.raw q) (node c y.words q) _ _ s.whole_q);
      inside = s.inside;
      not_top = s.not_top;
      deep = s.deep;
      fresh_q = s.fresh_q;
      fresh_l = s.fresh_l;
      fresh_r = s.fresh_r;
      link = turned.link;
      wider = moved (λ p z. Wider p z (f.index a) l r sep) (seen c x (f.up a) s.deep) (seen c y q q_below) s.wider;
      halves = λ inner. subst (λ z. Halves z (children (view_of c y) l) (children (view_of c y) r) m sep) (seen c x a s.not_top)
          (moved (λ p z. Halves (children_of (node c x.words a)) p z m sep) (seen c y l l_below) (seen c y r r_below) (s.halves inner));
      whole_q = rw (no q c.nodes q_below) s.whole_q;
      whole_l = rw (no l c.nodes l_below) s.whole_l;
      whole_r = rw (no r c.nodes r_below) s.whole_r;
      others = λ j i na np far. turned.others j i far (grind (arith, nat_tests));
    }

    left : (key : List ℕ) → f.level a ≡ 0 → is_before key sep ≡ true → (view_of c y).found l key ≡ (view_of c x).found a key
    left key leaf before = rw (no l c.nodes l_below, no a c.nodes s.not_top) ((s.says leaf).before key before)

    right : (key : List ℕ) → f.level a ≡ 0 → is_before key sep ≡ false → (view_of c y).found r key ≡ (view_of c x).found a key
    right key leaf from = rw (no r c.nodes r_below, no a c.nodes s.not_top) ((s.says leaf).from key from)
