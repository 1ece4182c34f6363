-- In a quiet time the same slots are in the tree: from the root down each child pointer leads where it led.
use Rattle.std.proofs.Common.{◌≡◌, ◌≢◌, ℕ, zero, suc, ◌+◌, ◌-◌, ◌<◌, ◌≤◌, ◌==◌, if◌then◌else◌, Bool, true, false, List, arith, refl, sym, ap, subst, ◌∙◌, inl, inr}
use Rattle.std.proofs.lemmas.Bool.{cases_lt, cases_eq}
use Rattle.std.proofs.lemmas.Bool.Decides.{nat_tests}
use Rattle.bz_layout.specs.declared.config.Config.{Config}
use Rattle.bz_layout.specs.declared.sizes.TheConstants.{HEADER_AT}
use Rattle.bz_tree.specs.Form.{Fits, Stands, Hangs, Holds}
use Rattle.bz_tree.specs.Order.{is_at_least, is_below}
use Rattle.bz_tree.specs.Walk.{IsTree}
use Rattle.bz_tree.proofs.Proved.{leaves_tile_the_keys}
use Rattle.bz_slotted.specs.Readers.{count_of, child_of}
use Rattle.bz_word.specs.Headers.{header}
use Rattle.bz_content.specs.Content.{view_in, leaf_in}
use Rattle.bz_content.specs.Image.{root}
use Rattle.bz_content.specs.Resolving.{resolve}
use Rattle.bz_content.proofs.Proved.{well_formed_images_have_no_fault}
use Rattle.bz_task.specs.Good.{IsGood}
use Rattle.bz_task.specs.Instant.{Instant, words, durable, page_at, form_at, is_inside}
use Rattle.bz_task.specs.Laws.{SamePlace}
use Rattle.bz_task.specs.Scene.{Scene, IsScene}
use Rattle.bz_task.specs.Steps.{IsQuiet}
use Rattle.bz_task.proofs.Proved.{headers_say_the_level, ranges_stay}
use Rattle.bz_undisturbed.specs.Quiet.{IsQuietSince}
use Rattle.bz_undisturbed.specs.Trees.{SameTree, TreesStand}
use Rattle.bz_undisturbed.proofs.Inners.{fits}
use Rattle.bz_undisturbed.proofs.Quiet.{quiet-back, never-fall, quiet-times}

is : (a : ℕ) → (a == a) ≡ true
is a = grind (arith, nat_tests)

apart : (a b : ℕ) → a ≢ b → (a == b) ≡ false
apart a b ne = grind (arith, nat_tests)

module _ (c : Config) (x y : Instant) (gx : IsGood c x) (gy : IsGood c y) (q : IsQuiet c x y) where
  fx : Fits (view_in c x.image) (form_at c x)
  fx = fits c x gx

  fy : Fits (view_in c y.image) (form_at c y)
  fy = fits c y gy

  root-same : root (resolve y.image) ≡ root (resolve x.image)
  root-same = ap (λ z. z - 1) (gy.root ∙ (q.root.pointer ∙ sym gx.root))

  -- an inner node is the same in both images
  module _ (k : ℕ) (ne : k ≢ c.nodes) (ins : is_inside c x k ≡ true) (high : 0 < (form_at c x).level k) where
    reached : x.reached k ≡ true
    reached = gx.inside k ins ne

    inner-x : 0 < (page_at c x k).level
    inner-x = omega (arith, (headers_say_the_level c x k gx ne ins).level, high)

    level-same : (page_at c y k).level ≡ (page_at c x k).level
    level-same = ap (λ z. (header z).level) (q.nodes k reached HEADER_AT (inl (omega arith)))

    words-same : (i : ℕ) → words c y k i ≡ words c x k i
    words-same i = q.nodes k reached i (inr (inr (inl inner-x)))

    node-same : durable c y k ≡ durable c x k
    node-same = λ t i. (gy.shown k i (q.reached k ∙ reached) (inr (inr (inl (omega (arith, level-same, inner-x))))) ∙ (words-same i ∙ sym (gx.shown k i reached (inr (inr (inl inner-x)))))) t

    node-count : (view_in c y.image).count k ≡ (view_in c x.image).count k
    node-count = rw (apart k c.nodes ne) (ap count_of node-same)

    node-child : (i : ℕ) → (view_in c y.image).child k i ≡ (view_in c x.image).child k i
    node-child i = rw (apart k c.nodes ne) (ap (λ n. child_of n i) node-same)

    node-high : is_inside c y k ≡ true → 0 < (form_at c y).level k
    node-high j = omega (arith, (headers_say_the_level c y k gy ne j).level, level-same, inner-x)

  top-count : (view_in c y.image).count c.nodes ≡ (view_in c x.image).count c.nodes
  top-count = rw (is c.nodes) refl

  top-child : (i : ℕ) → (view_in c y.image).child c.nodes i ≡ (view_in c x.image).child c.nodes i
  top-child i = rw (is c.nodes) (ap (λ r. if i == 0 then r else 0) root-same)

  -- the child of a slot that is in both trees
  child-inside : (p i k : ℕ) → is_inside c x p ≡ true → is_inside c y p ≡ true → 0 < (form_at c x).level p → i < (view_in c x.image).count p → (view_in c x.image).child p i ≡ k → is_inside c y k ≡ true
  child-inside p i k ins there high l e = elim (cases_eq p c.nodes) [
    | inr ne ↦ (
        let down : Stands (view_in c y.image) (form_at c y) p i ((view_in c y.image).child p i) =
        fy.down p i there (node-high p ne ins high there) (omega (arith, l, node-count p ne ins high)) in
        subst (λ z. is_inside c y z ≡ true) (node-child p ne ins high i ∙ e) down.inside)
    | inl at ↦ (
        let within : i < (view_in c y.image).count c.nodes = subst (λ z. i < z) (sym top-count) (subst (λ z. i < (view_in c x.image).count z) at l) in
        let down : Stands (view_in c y.image) (form_at c y) c.nodes i ((view_in c y.image).child c.nodes i) =
        fy.down c.nodes i fy.top (omega (arith, fy.height, fy.tall)) within in
        subst (λ z. is_inside c y z ≡ true) (top-child i ∙ (ap (λ z. (view_in c x.image).child z i) (sym at) ∙ e)) down.inside)
  ]

  -- one level below a slot that is in both
  step : (k : ℕ) → is_inside c x k ≡ true → k ≢ c.nodes → ((form_at c x).level k + 1 ≡ (form_at c x).level ((form_at c x).up k) → is_inside c x ((form_at c x).up k) ≡ true → is_inside c y ((form_at c x).up k) ≡ true) → is_inside c y k ≡ true
  step k ins ne above =
      let h : Hangs (view_in c x.image) (form_at c x) k = fx.hangs k ins ne in
      let down : Stands (view_in c x.image) (form_at c x) ((form_at c x).up k) ((form_at c x).index k) ((view_in c x.image).child ((form_at c x).up k) ((form_at c x).index k)) = fx.down ((form_at c x).up k) ((form_at c x).index k) h.inside h.inner h.within in
      child-inside ((form_at c x).up k) ((form_at c x).index k) k h.inside (above (subst (λ z. (form_at c x).level z + 1 ≡ (form_at c x).level ((form_at c x).up k)) h.child down.level) h.inside) h.inner h.within h.child

  at-top : (k : ℕ) → k ≡ c.nodes → is_inside c y k ≡ true
  at-top k e = subst (λ z. is_inside c y z ≡ true) (sym e) fy.top

  -- by the levels above it
  from-top : (n k : ℕ) → (form_at c x).level k + n ≡ (view_in c x.image).height → is_inside c x k ≡ true → is_inside c y k ≡ true
  from-top zero k sum ins = elim (cases_eq k c.nodes) [ inl e ↦ at-top k e | inr ne ↦ absurd (omega (arith, sum, (fx.hangs k ins ne).lower)) ]
  from-top (suc n) k sum ins = elim (cases_eq k c.nodes) [
    | inl e ↦ at-top k e
    | inr ne ↦ step k ins ne (λ up there. from-top n ((form_at c x).up k) (omega (arith, sum, up)) there)
  ]

  pub inside-there : (k : ℕ) → is_inside c x k ≡ true → is_inside c y k ≡ true
  inside-there k ins = from-top ((view_in c x.image).height - (form_at c x).level k) k (omega (arith, low)) ins
    where
      low : (form_at c x).level k ≤ (view_in c x.image).height
      low = elim (cases_eq k c.nodes) [
        | inl e ↦ omega (arith, fx.height, ap (form_at c x).level e)
        | inr ne ↦ omega (arith, (fx.hangs k ins ne).lower)
      ]

same-truth : (a t : Bool) → (a ≡ true → t ≡ true) → (t ≡ true → a ≡ true) → t ≡ a
same-truth true t f g = f refl
same-truth false true f g = sym (g refl)
same-truth false false f g = refl

module _ (c : Config) (x y : Instant) (gx : IsGood c x) (gy : IsGood c y) (inside : (k : ℕ) → is_inside c y k ≡ is_inside c x k) (place : (k : ℕ) → k ≢ c.nodes → is_inside c x k ≡ true → SamePlace c x y k) where
  pub leaf-same : (key : List ℕ) → leaf_in c y.image key ≡ leaf_in c x.image key
  leaf-same key =
      let k = leaf_in c x.image key in
      let tree-x : IsTree (view_in c x.image) = ((well_formed_images_have_no_fault c x.image).0 gx.form).tree in
      let tree-y : IsTree (view_in c y.image) = ((well_formed_images_have_no_fault c y.image).0 gy.form).tree in
      let h : Holds (form_at c x) key k = (leaves_tile_the_keys (view_in c x.image) tree-x key k).1 refl in
      let f : Fits (view_in c x.image) (form_at c x) = fits c x gx in
      let ne : k ≢ c.nodes = λ e. absurd (omega (arith, h.leaf, f.height, f.tall, ap (form_at c x).level e)) in
      let p : SamePlace c x y k = place k ne h.inside in
      (leaves_tile_the_keys (view_in c y.image) tree-y key k).0 (record {
        inside = inside k ∙ h.inside;
        leaf = p.level ∙ h.leaf;
        low = subst (λ z. is_at_least key z ≡ true) (sym p.low) h.low;
        high = subst (λ z. is_below key z ≡ true) (sym p.high) h.high;
      })

module _ (s : Scene) (m : ℕ) (good : IsScene s) (q : IsQuietSince m s.past) where
  -- of two moments the second one is the later one
  in-order : (i j : ℕ) → m ≤ i → i ≤ j → j ≤ s.past.now → SameTree s.past.config (s.past.at i) (s.past.at j)
  in-order i j from order to = record { inside = same; place = stays; leaf = leaf-same c x y gx gy same stays }
    where
      c : Config
      c = s.past.config

      x : Instant
      x = s.past.at i

      y : Instant
      y = s.past.at j

      gx : IsGood s.past.config (s.past.at i)
      gx = good.history.good i (omega (arith, q.since, from)) (omega (arith, order, to))

      gy : IsGood s.past.config (s.past.at j)
      gy = good.history.good j (omega (arith, q.since, from, order)) to

      up : (s.past.at m).effects ≤ (s.past.at i).effects
      up = never-fall s.past.config s.past.at s.past.since s.past.now m i good.history (record { since = q.since; order = from; until = omega (arith, order, to) })

      on : (s.past.at i).effects ≤ (s.past.at s.past.now).effects
      on = never-fall s.past.config s.past.at s.past.since s.past.now i s.past.now good.history (record { since = omega (arith, q.since, from); order = omega (arith, order, to); until = omega arith })

      silent : IsQuiet s.past.config (s.past.at i) (s.past.at j)
      silent =
          quiet-times s.past.config s.past.at s.past.since s.past.now i j s.past.now good.history (record { since = omega (arith, q.since, from); order = omega (arith, order, to); until = omega arith }) order to (omega (arith, up, on, q.effects))

      same : (k : ℕ) → is_inside s.past.config (s.past.at j) k ≡ is_inside s.past.config (s.past.at i) k
      same k =
          same-truth (is_inside s.past.config (s.past.at i) k) (is_inside s.past.config (s.past.at j) k)
          (inside-there s.past.config (s.past.at i) (s.past.at j) gx gy silent k)
          (inside-there s.past.config (s.past.at j) (s.past.at i) gy gx (quiet-back s.past.config (s.past.at i) (s.past.at j) silent) k)

      stays : (k : ℕ) → k ≢ s.past.config.nodes → is_inside s.past.config (s.past.at i) k ≡ true → SamePlace s.past.config (s.past.at i) (s.past.at j) k
      stays k ne ins =
          ranges_stay s.past.config s.past.at s.past.since s.past.now i j k good.history (record { since = omega (arith, q.since, from); order = order; until = to }) ne ins (same k ∙ ins)

turned : (c : Config) (x y : Instant) → SameTree c x y → SameTree c y x
turned c x y t = record {
  inside = λ k. sym (t.inside k);
  place = λ k ne ins. let p : SamePlace c x y k = t.place k ne (sym (t.inside k) ∙ ins) in record { level = sym p.level; low = sym p.low; high = sym p.high };
  leaf = λ key. sym (t.leaf key);
}

pub trees-stand : TreesStand
trees-stand s m i j good q in-i in-j = elim (cases_lt j i) [
  | inl l ↦ turned s.past.config (s.past.at j) (s.past.at i) (in-order s m good q j i in-j.from (omega (arith, l)) in-i.to)
  | inr l ↦ in-order s m good q i j in-i.from l in-j.to
]
