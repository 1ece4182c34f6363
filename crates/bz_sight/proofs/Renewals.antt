-- A memory that is renewed is seen as a settled one.
use Rattle.std.proofs.Common.{◌≡◌, ℕ, ◌+◌, ◌<◌, ◌≤◌, slice_index, arith, refl, sym, subst, ◌∙◌, inl, inr}
use Rattle.std.specs.Prelude.{nat_lt}
use Rattle.std.proofs.lemmas.Bool.{true≢false, cases_lt, and_parts}
use Rattle.bz_layout.specs.Addresses.{swap_address, node_address}
use Rattle.bz_layout.specs.declared.config.Config.{Config}
use Rattle.bz_layout.specs.declared.sizes.TheConstants.{NODE_WORDS, ROOT_AT, ROOT_STATUS_AT, SUPERBLOCK_WORDS}
use Rattle.bz_swap_cells.specs.Store.{IsOutside}
use Rattle.bz_content.specs.Content.{view_in}
use Rattle.bz_content.specs.Resolving.{resolve}
use Rattle.bz_content.proofs.Proved.{plain_words_stand_for_themselves}
use Rattle.bz_tree.specs.Walk.{form}
use Rattle.bz_swap.specs.Power.{renewed}
use Rattle.bz_swap.specs.SwapMemory.{SwapMemory}
use Rattle.bz_swap.proofs.Proved.{plain_fields_stay, settled_words_stay}
use Rattle.bz_task.specs.Good.{IsGood}
use Rattle.bz_task.specs.Instant.{Instant, words, durable}
use Rattle.bz_task.specs.Settled.{settled}
use Rattle.bz_task.proofs.Proved.{settled_memories_are_good}
use Rattle.bz_sight.specs.Renewal.{IsRenewable, RenewedMemoriesAreSeen, renewed_instant}
use Rattle.bz_sight.specs.Sight.{IsSeen, answer_at}
use Rattle.bz_sight.proofs.Passings.{answer-private, node-at, node-past, fixed-place}
use Rattle.bz_sight.proofs.ReadWords.{read-outside}

module _ (c : Config) (m : SwapMemory) (h : IsRenewable c m) where
  abbrev y : Instant
  y = renewed_instant c m

  before : IsGood c (settled c (slice_index m.durable))
  before = settled_memories_are_good c (slice_index m.durable) h.form

  -- outside the descriptors a read answers what the image has
  answers : (a : ℕ) → IsOutside m.swaps a → resolve (slice_index m.durable) a ≡ answer_at (renewed m) a
  answers a o =
      plain_words_stand_for_themselves (slice_index m.durable) a (h.may_renew.durable.plain a o) ∙ (sym (h.may_renew.same a o) ∙ sym (answer-private (renewed m) a o refl))

  at-top : (a : ℕ) → a < SUPERBLOCK_WORDS → resolve (slice_index m.durable) a ≡ answer_at (renewed m) a
  at-top a l = answers a (inl l)

  in-slot : (k i : ℕ) → durable c y k i ≡ words c y k i
  in-slot k i = elim (cases_lt i NODE_WORDS) [
    | inl l ↦ node-at c (resolve y.image) k i l ∙ (answers (node_address c k + i) (inr (subst (λ n. swap_address n ≤ node_address c k + i) (sym h.swaps) (omega arith))) ∙ sym (node-at c y.value k i l))
    | inr l ↦ node-past c (resolve y.image) k i l ∙ sym (node-past c y.value k i l)
  ]

  good : IsGood c y
  good = record {
    few = omega arith;
    form = h.form;
    inside = before.inside;
    placed = λ k r. inl (and_parts (nat_lt k c.nodes) ((form (view_in c (slice_index m.durable))).inside k) r).1;
    slots = before.slots;
    shown = λ k i r s. in-slot k i;
    root = at-top ROOT_AT (omega arith);
    root_status = at-top ROOT_STATUS_AT (omega arith);
  }

  seen : IsSeen c (renewed m) y
  seen = record {
    config = h.config;
    swaps = h.swaps;
    size = h.size;
    phase = λ e. cc;
    holds = h.holds;
    fields = plain_fields_stay.renewal m h.fields;
    fixed = λ a fix. settled_words_stay.renewal m a h.asks (h.may_renew.same a (inl (fixed-place a fix).0));
    image = refl;
    value = refl;
    settled = refl;
    good = good;
    targets = λ a e. absurd (true≢false (sym e));
    shown = λ a r e. settled_words_stay.renewal m a h.asks (h.may_renew.same a (read-outside c m.swaps y a h.swaps r));
  }

pub renewed-seen : RenewedMemoriesAreSeen
renewed-seen c m h = seen c m h
