-- Fresh memory, as it is opened, is seen as a settled memory.
use Rattle.std.proofs.Common.{◌≡◌, ℕ, zero, suc, ◌^◌, ◌<◌, Bool, true, false, arith, refl, sym, ap, subst, ◌∙◌, inl, inr}
use Rattle.std.proofs.lemmas.Bool.{true≢false, cases_lt}
use Rattle.bz_layout.specs.Addresses.{swap_address}
use Rattle.bz_layout.specs.Config.{IsConfig}
use Rattle.bz_layout.specs.Fresh.{SaysFresh, fresh_words}
use Rattle.bz_layout.specs.declared.config.Config.{Config}
use Rattle.bz_layout.specs.declared.sizes.TheConstants.{SUPERBLOCK_USED}
use Rattle.bz_layout.proofs.Laws.{fresh_words_say}
use Rattle.bz_swap_cells.specs.Store.{is_outside, field_address}
use Rattle.bz_content.specs.Resolving.{resolve}
use Rattle.bz_content.proofs.Proved.{fresh_memory_is_empty, plain_words_stand_for_themselves}
use Rattle.bz_swap.specs.Held.{Holds}
use Rattle.bz_swap.specs.PlainFields.{ArePlainFields}
use Rattle.bz_swap.specs.Power.{AreRecovered, opened}
use Rattle.bz_swap.specs.SwapMemory.{SwapMemory}
use Rattle.bz_swap.specs.declared.phase.Phase.TheVariants.{Opened}
use Rattle.bz_swap.proofs.Proved.{plain_fields_stay, settled_words_stay}
use Rattle.bz_task.proofs.Proved.{settled_memories_are_good}
use Rattle.bz_sight.specs.Opening.{FreshMemoryIsSeen, fresh_image, fresh_instant}
use Rattle.bz_sight.specs.Sight.{IsSeen, answer_at}
use Rattle.bz_sight.proofs.Leavings.{inside-answers, outside-by}
use Rattle.bz_sight.proofs.Passings.{outside-test, answer-private}

-- each word of fresh memory is plain
used-plain : (c : Config) → IsConfig c → SaysFresh c (fresh_words c) → (a : ℕ) → a < SUPERBLOCK_USED → fresh_image c a < 2 ^ 61
used-plain c good says zero l = subst (λ n. n < 2 ^ 61) (sym says.format) (omega arith)
used-plain c good says (suc zero) l = subst (λ n. n < 2 ^ 61) (sym says.root) (omega arith)
used-plain c good says (suc (suc zero)) l = subst (λ n. n < 2 ^ 61) (sym says.root_status) (omega arith)
used-plain c good says (suc (suc (suc zero))) l = subst (λ n. n < 2 ^ 61) (sym says.nodes) (omega (arith, good.nodes_in_range.at_most))
used-plain c good says (suc (suc (suc (suc zero)))) l = subst (λ n. n < 2 ^ 61) (sym says.swaps) (omega (arith, good.swaps_in_range.at_most))
used-plain c good says (suc (suc (suc (suc (suc a))))) l = absurd (omega (arith, l))

fresh-plain : (c : Config) → IsConfig c → SaysFresh c (fresh_words c) → (a : ℕ) → fresh_image c a < 2 ^ 61
fresh-plain c good says a = elim (cases_lt a SUPERBLOCK_USED) [
  | inl l ↦ used-plain c good says a l
  | inr l ↦ subst (λ n. n < 2 ^ 61) (sym (says.rest a (omega (arith, l)))) (omega arith)
]

module _ (c : Config) (config : IsConfig c) where
  abbrev first : SwapMemory
  first = opened Opened (fresh_words c) c.swaps c.workers

  says : SaysFresh c (fresh_words c)
  says = fresh_words_say c

  plain : (a : ℕ) → fresh_image c a < 2 ^ 61
  plain = fresh-plain c config says

  recovered : AreRecovered c.swaps (fresh_words c)
  recovered = record { plain = λ a o. plain a; free = λ s l. says.rest (swap_address s) (omega arith) }

  plain-fields : ArePlainFields c.swaps (fresh_words c)
  plain-fields s k l m = plain (field_address s k)

  -- an address among the descriptors has no word but 0
  unused : (a : ℕ) → is_outside c.swaps a ≡ false → fresh_image c a ≡ 0
  unused a e = elim (cases_lt a 16) [
    | inl l ↦ absurd (true≢false (sym (outside-test c.swaps a (inl (omega (arith, l)))) ∙ e))
    | inr l ↦ says.rest a (omega (arith, l))
  ]

  answers : (a : ℕ) → resolve (fresh_image c) a ≡ answer_at first a
  answers a = plain_words_stand_for_themselves (fresh_image c) a (plain a) ∙ go (is_outside c.swaps a) refl
    where
      go : (t : Bool) → is_outside c.swaps a ≡ t → fresh_image c a ≡ answer_at first a
      go true e = sym (answer-private first a (outside-by c.swaps a e) refl)
      go false e = unused a e ∙ sym (inside-answers first a e)

  first-seen : Holds first → IsSeen c first (fresh_instant c)
  first-seen holds = record {
    config = config;
    swaps = refl;
    size = says.size;
    phase = λ e. cc;
    holds = holds;
    fields = plain_fields_stay.opening Opened (fresh_words c) c.swaps c.workers plain-fields;
    fixed = λ a e. settled_words_stay.opening Opened (fresh_words c) c.swaps c.workers a;
    image = refl;
    value = λ t a. answers a t;
    settled = λ t a. sym (settled_words_stay.opening Opened (fresh_words c) c.swaps c.workers a) t;
    good = settled_memories_are_good c (fresh_image c) (fresh_memory_is_empty c config).0;
    targets = λ a e. absurd (true≢false (sym e));
    shown = λ a r e. refl;
  }

pub fresh-seen : FreshMemoryIsSeen
fresh-seen c m fresh =
    let phase : fresh.opened.phase ≡ Opened = fresh.opened.needs_none.1 (recovered c fresh.config) in
    let same : m ≡ opened Opened (fresh_words c) c.swaps c.workers = fresh.opened.is ∙ ap (λ p. opened p (fresh_words c) c.swaps c.workers) phase in
    record {
      seen = subst (λ z. IsSeen c z (fresh_instant c)) (sym same) (first-seen c fresh.config (subst Holds same fresh.holds));
      well_formed = (fresh_memory_is_empty c fresh.config).0;
      content = (fresh_memory_is_empty c fresh.config).1;
    }
