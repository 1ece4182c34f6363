-- The swaps on a leaf's status and a metadata word: both have the values that were read of the leaf.
use Rattle.std.proofs.Common.{◌≡◌, ℕ, ◌+◌, ◌<◌, ◌≤◌, List, [], ◌∷◌, true, arith, sym, ap, subst, ◌∙◌, inl, inr}
use Rattle.std.proofs.lemmas.List.Elements.{All-cons}
use Rattle.bz_layout.specs.Addresses.{node_address}
use Rattle.bz_layout.specs.declared.sizes.TheConstants.{STATUS_AT, META_AT, SHARED_WORDS}
use Rattle.bz_slotted.specs.Page.{page}
use Rattle.bz_slotted.specs.Whole.{Whole}
use Rattle.bz_slotted.proofs.Proved.{leaf_rules_are_facts}
use Rattle.bz_word.specs.Metas.{meta_word}
use Rattle.bz_word.specs.declared.meta.Meta.TheVariants.{Visible}
use Rattle.bz_word.specs.Statuses.{status}
use Rattle.bz_word.specs.declared.entry.Entry.{Entry}
use Rattle.bz_content.specs.Image.{node}
use Rattle.bz_task.specs.Good.{IsGood}
use Rattle.bz_task.specs.Instant.{words, durable, page_at, form_at}
use Rattle.bz_task.specs.Laws.{IsLeafInTree}
use Rattle.bz_task.specs.Scene.{Scene, IsScene, here}
use Rattle.bz_task.specs.Shown.{IsShown}
use Rattle.bz_task.specs.Swaps.{Stand}
use Rattle.bz_task.proofs.Proved.{leaves_are_in_trees}
use Rattle.bz_record.specs.Leaves.{WasLeafThen}
use Rattle.bz_record.specs.Replacing.{WasRecord}
use Rattle.bz_record.specs.Swaps.{entries_of, status_entry, meta_entry}
use Rattle.bz_record.specs.declared.record_swap.RecordSwap.{RecordSwap}
use Rattle.bz_word.specs.declared.meta.Extent.{Extent}
use Rattle.bz_undisturbed.specs.Quiet.{IsQuietSince}
use Rattle.bz_undisturbed.proofs.Standing.{good-at, reached-in, word-stands, status-stands}

pub two-stand : (a b : Entry) (s : Scene) → (here s).value a.target ≡ a.expected → (here s).value b.target ≡ b.expected → Stand (a ∷ b ∷ []) (here s)
two-stand a b s h k = All-cons (λ (z : Entry). (here s).value z.target ≡ z.expected) a (b ∷ []) h (All-cons (λ (z : Entry). (here s).value z.target ≡ z.expected) b [] k (λ i d l. absurd (omega (arith, l))))

module _ (s : Scene) (good : IsScene s) (m : ℕ) (q : IsQuietSince m s.past) (k st moment : ℕ) (w : WasLeafThen k st moment s.past) (from : m ≤ moment) where
  pub leaf-reached : (s.past.at moment).reached k ≡ true
  leaf-reached = reached-in s good m q moment k from w.now w.slot w.inside

  leaf-good : IsGood s.past.config (s.past.at moment)
  leaf-good = good-at s good m q moment from w.now

  is-leaf : IsLeafInTree s.past.config (s.past.at moment) k
  is-leaf = leaves_are_in_trees s.past.config (s.past.at moment) k leaf-good w.slot w.inside w.leaf

  whole : Whole (node s.past.config (s.past.at moment).image k) (page (durable s.past.config (s.past.at moment) k)) ((form_at s.past.config (s.past.at moment)).low k) ((form_at s.past.config (s.past.at moment)).high k)
  whole = (leaf_rules_are_facts s.past.config.nodes (node s.past.config (s.past.at moment).image k) (durable s.past.config (s.past.at moment) k) ((form_at s.past.config (s.past.at moment)).low k) ((form_at s.past.config (s.past.at moment)).high k)).0 is-leaf.whole

  durable-status : durable s.past.config (s.past.at moment) k STATUS_AT ≡ st
  durable-status = leaf-good.shown k STATUS_AT leaf-reached (inl (omega arith)) ∙ w.was

  pub room : (status st).count + (status st).block ≤ SHARED_WORDS
  room = subst (λ z. (status z).count + (status z).block ≤ SHARED_WORDS) durable-status whole.filled.room

  pub counted-as : (page_at s.past.config (s.past.at moment) k).count ≡ (status st).count
  counted-as = ap (λ z. (status z).count) w.was

  pub blocked-as : (page_at s.past.config (s.past.at moment) k).block ≡ (status st).block
  blocked-as = ap (λ z. (status z).block) w.was

  pub leaf-status : (here s).value (node_address s.past.config k + STATUS_AT) ≡ st
  leaf-status = status-stands s good m q k moment st from w.now leaf-reached w.was

  -- a metadata word that is in use, or the free one after these
  pub meta-stands : (place v : ℕ) → place < SHARED_WORDS → IsShown (words s.past.config (s.past.at moment) k) (META_AT + place) → words s.past.config (s.past.at moment) k (META_AT + place) ≡ v
      → (here s).value (node_address s.past.config k + (META_AT + place)) ≡ v
  meta-stands place v l h e = word-stands s good m q k (META_AT + place) moment v from w.now leaf-reached (omega (arith, l)) h e

  -- the word directly after those in use is 0
  pub free-word : (status st).count + (status st).block < SHARED_WORDS → words s.past.config (s.past.at moment) k (META_AT + (status st).count) ≡ 0
  free-word l =
      let shown : IsShown (words s.past.config (s.past.at moment) k) (META_AT + (status st).count) = inr (inl (omega (arith, l, blocked-as))) in
      sym (leaf-good.shown k (META_AT + (status st).count) leaf-reached shown)
      ∙ whole.filled.free (META_AT + (status st).count) (omega (arith, ap (λ z. (status z).count) durable-status)) (omega (arith, l, ap (λ z. (status z).block) durable-status))

-- the swap of a record that is in its leaf
module _ (s : Scene) (good : IsScene s) (m : ℕ) (q : IsQuietSince m s.past) where
  pub swap-stands : (w : RecordSwap) (key payload : List ℕ) (e : Extent) (was : WasRecord key payload w.slot w.status w.place e s.past) → m ≤ was.moment → meta_word (Visible e) ≡ w.meta → Stand (entries_of s.past.config w) (here s)
  swap-stands w key payload e was from is =
      two-stand (status_entry s.past.config w) (meta_entry s.past.config w) s
      (leaf-status s good m q w.slot w.status was.moment was.leaf.leaf from)
      (meta-stands s good m q w.slot w.status was.moment was.leaf.leaf from w.place w.meta
      (omega (arith, was.counted, room s good m q w.slot w.status was.moment was.leaf.leaf from))
      (inl (omega (arith, was.counted, counted-as s good m q w.slot w.status was.moment was.leaf.leaf from)))
      (was.meta ∙ is))
