-- The page that is read from a view is that of the image.
use Rattle.std.proofs.Common.{◌≡◌, ◌≢◌, ℕ, ◌&&◌, if◌then◌else◌, Bool, true, false, cond, List, length, refl, sym, ap, ◌∙◌, Option}
use Rattle.std.specs.Prelude.{Some, None, not, filter, T}
use Rattle.std.specs.Cmp.Lexicographic.{slice_cmp}
use Rattle.std.specs.FinMap.{find, is_sorted, slice_cmp-IsAntisymmetric, nat_cmp-IsAntisymmetric}
use Rattle.std.specs.FinMap.Entries.{is_sorted-where_key, find-where_key}
use Rattle.std.specs.Ordering.{nat_cmp, is_ge, is_lt}
use Rattle.std.specs.declared.cmp.Ordering.{Ordering}
use Rattle.std.specs.declared.cmp.Ordering.TheVariants.{Less, Equal, Greater}
use Rattle.std.proofs.lemmas.Bool.{true≢false}
use Rattle.bz_task.specs.FromCall.Pages.{is_from}
use Rattle.bz_task.specs.FromContent.Content.{content_in}
use Rattle.bz_slotted.specs.FromLayout.TheConstants.{NODE_WORDS}
use Rattle.bz_slotted.specs.FromNode.Reading.{AreInKeyOrder, pairs_in, high_in}
use Rattle.bz_tree.specs.Form.{Holds}
use Rattle.bz_tree.specs.Order.{is_before, is_at_least, is_below}
use Rattle.bz_tree.proofs.OrderLaws.{before-after}
use Rattle.bz_slotted.specs.ReadingLaws.{node_of}
use Rattle.bz_slotted.specs.Readers.{found_of}
use Rattle.bz_slotted.specs.Rules.{node_fault}
use Rattle.bz_slotted.proofs.Proved.{found_keys_are_in_range, high_fences_are_read, whole_leaves_are_readable}
use Rattle.bz_task.specs.Good.{IsGood}
use Rattle.bz_task.specs.Instant.{form_at}
use Rattle.bz_task.specs.Outcomes.{IsView}
use Rattle.bz_task.specs.Scene.{Past}
use Rattle.bz_task.specs.declared.view.LeafView.{LeafView}
use Rattle.bz_page.specs.Pages.{IsPageOf}
use Rattle.bz_page.proofs.Lookups.{find-order, rising-sorted}
use Rattle.bz_page.proofs.Views.{holds, says-content}

-- what was read of these words: the pairs in the order of their keys, those from a key on, and the high fence
pub record IsRead (words from : List ℕ) (all pairs : List (List ℕ × List ℕ)) (end : Option (List ℕ)) : Type 0 where
  pub size : length words ≡ NODE_WORDS
  pub order : AreInKeyOrder (pairs_in words) all
  pub rest : pairs ≡ filter (λ pair. is_from from pair.0) all
  pub high : end ≡ high_in words

is-true : (b : Bool) → T b → b ≡ true
is-true true h = refl
is-true false h = absurd h

-- only a key itself ties with it
same-test : (from key other : List ℕ) → slice_cmp nat_cmp key other ≡ Equal → is_from from other ≡ is_from from key
same-test from key other tied = ap (is_from from) (sym (slice_cmp-IsAntisymmetric nat_cmp-IsAntisymmetric key other tied))

from-not-before : (from key : List ℕ) → is_from from key ≡ true → is_before key from ≡ false
unfolding is_before
from-not-before from key h = by-order (slice_cmp nat_cmp key from) h
  where
    by-order : (o : Ordering) → is_ge o ≡ true → is_lt o ≡ false
    by-order Less h = absurd (true≢false (sym h))
    by-order Equal h = refl
    by-order Greater h = refl

-- a key from another key on is not before a bound that this one is not before
at_least-from : (from key : List ℕ) (low : Option (List ℕ)) → is_from from key ≡ true → is_at_least from low ≡ true → is_at_least key low ≡ true
at_least-from from key None h g = refl
at_least-from from key (Some low) h g = go (is_before key low) refl
  where
    not-true : (b : Bool) → not b ≡ true → b ≡ true → ⊥
    not-true true n t = true≢false (sym n)
    not-true false n t = true≢false (sym t)

    go : (b : Bool) → is_before key low ≡ b → not b ≡ true
    go true e = absurd (not-true (is_before from low) g (before-after from key low (from-not-before from key h) e))
    go false e = refl

and-right : (a b : Bool) → (a && b) ≡ true → b ≡ true
and-right true b e = e
and-right false b e = absurd (cc)

shows-end : (nodes : ℕ) (words from : List ℕ) (low high : Option (List ℕ)) (all pairs : List (List ℕ × List ℕ)) (end : Option (List ℕ)) →
    IsRead words from all pairs end → node_fault nodes (node_of words) (node_of words) 0 low high ≡ None → end ≡ high
shows-end nodes words from low high all pairs end r none = r.high ∙ (high_fences_are_read nodes (node_of words) words 0 low high r.size none).high

module _ (from : List ℕ) (view : LeafView) (all pairs : List (List ℕ × List ℕ)) (end : Option (List ℕ)) (r : IsRead view.image.0 from all pairs end) (p : Past) (v : IsView from view p) (g : IsGood p.config (p.at view.at)) where
  high : end ≡ (form_at p.config (p.at view.at)).high view.slot
  high = shows-end p.config.nodes view.image.0 from _ _ all pairs end r v.whole

  -- a look-up in the page
  finds-from : (key : List ℕ) → find (slice_cmp nat_cmp) key pairs ≡ cond (is_from from key) (found_of (node_of view.image.0) key) None
  finds-from key =
      ap (find (slice_cmp nat_cmp) key) r.rest
      ∙ (find-where_key (slice_cmp nat_cmp) (is_from from) key (λ other tied. same-test from key other tied) all
      ∙ ap (λ (found : Option (List ℕ)). cond (is_from from key) found None)
      (find-order key (pairs_in view.image.0) all r.order.same r.order.rising ∙ (whole_leaves_are_readable p.config.nodes (node_of view.image.0) view.image.0 _ _ r.size v.whole).says key))

  -- a key in the page's range is one of the leaf
  holds-key : (key : List ℕ) → is_from from key ≡ true → is_below key end ≡ true → Holds (form_at p.config (p.at view.at)) key view.slot
  holds-key key after before =
      let h : Holds (form_at p.config (p.at view.at)) from view.slot = holds from view p v g in
      record { inside = h.inside; leaf = h.leaf; low = at_least-from from key _ after h.low; high = rw high at before }

  -- of a key past the end the leaf says nothing
  none-past : (key : List ℕ) → is_below key end ≡ false → found_of (node_of view.image.0) key ≡ None
  none-past key past = go (found_of (node_of view.image.0) key) refl
    where
      some : (found : List ℕ) → found_of (node_of view.image.0) key ≡ Some found → found_of (node_of view.image.0) key ≢ None
      some found e none = let no : Some found ≡ None = sym e ∙ none in absurd (cc)

      go : (o : Option (List ℕ)) → found_of (node_of view.image.0) key ≡ o → found_of (node_of view.image.0) key ≡ None
      go None e = e
      go (Some found) e =
          let within = found_keys_are_in_range p.config.nodes (node_of view.image.0) (node_of view.image.0) _ _ key v.whole (some found e) in
          let inside : is_below key end ≡ true = rw high (and-right (is_at_least key ((form_at p.config (p.at view.at)).low view.slot)) (is_below key ((form_at p.config (p.at view.at)).high view.slot)) within) in
          absurd (true≢false (sym inside ∙ past))

  finds : (key : List ℕ) → find (slice_cmp nat_cmp) key pairs ≡ (if is_from from key && is_below key end then content_in p.config (p.at view.at).image key else None)
  finds key = finds-from key ∙ go (is_from from key) refl (is_below key end) refl
    where
      go : (a : Bool) → is_from from key ≡ a → (d : Bool) → is_below key end ≡ d
          → cond a (found_of (node_of view.image.0) key) None ≡ (if a && d then content_in p.config (p.at view.at).image key else None)
      go false e d f = refl
      go true e true f = says-content from view p v g key (holds-key key e f)
      go true e false f = none-past key f

  pub is-page : IsPageOf p.config (p.at view.at).image from pairs end
  is-page = record {
    next = high ∙ ap (form_at p.config (p.at view.at)).high (sym v.leaf);
    rises = rw r.rest (is-true (is_sorted (slice_cmp nat_cmp) (filter (λ pair. is_from from pair.0) all)) (is_sorted-where_key (slice_cmp nat_cmp) (is_from from) all (rising-sorted all r.order.rising)));
    finds = finds;
  }
