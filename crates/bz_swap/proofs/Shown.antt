-- What callers see of the machine's state: values, effects and misses.
use Rattle.std.specs.Prelude.{◌≡◌, ◌≢◌, ℕ, ◌<◌, ◌≤◌, false, [], All, get_or}
use Rattle.std.proofs.Common.{arith, refl, ap, sym, subst, ◌∙◌, inl, inr}
use Rattle.std.proofs.lemmas.Bool.{cases_lt, true≢false}
use Rattle.bz_word.specs.declared.entry.Entry.{Entry}
use Rattle.bz_swap_machine.specs.Content as machine
use Rattle.bz_swap_machine.specs.Machine.{Entries, Memory}
use Rattle.bz_swap_cells.specs.Store.{typed}
use Rattle.bz_swap.specs.declared.phase.Phase.{Phase}
use Rattle.bz_swap.specs.declared.phase.Phase.TheVariants.{Opened, Running, Recovering}
use Rattle.bz_swap.specs.SwapMemory.{SwapMemory, Swapping, value_at, has_effect, is_missed, entries_of, is_target, is_named, is_among, doing_of}
use Rattle.bz_swap.specs.Effects.{TakesEffect, NoneTakesEffect, SomeDiffers, NotesMisses}
use Rattle.bz_swap.specs.Inside.Parts.{Parts, listed, entry_of, entry_list, begun_seen, seen}
use Rattle.bz_swap.specs.Inside.Kept.{IsRunning}
use Rattle.bz_swap.proofs.Begun.{begun_is}
use Rattle.bz_swap.proofs.Readable.{value_is}
use Rattle.bz_swap.proofs.Values.{all-listed, listed-all, listed-at, listed-target}

-- a swap memory shows the machine's memory
pub record Shows (m : SwapMemory) (e : ℕ → Entries) (x : Memory) : Type 0 where
  pub values : (a : ℕ) → value_at m a ≡ machine.content e x a
  pub effects : (s : ℕ) → has_effect m s ≡ machine.has_effect x s
  pub misses : (s : ℕ) → is_missed m s ≡ x.missed s
  pub named : (a : ℕ) → is_named m a ≡ x.named a
  pub entries : (s : ℕ) → s < x.taken → entries_of m s ≡ entry_list (e s)

pub begun-running : (p : Parts) (r : IsRunning p) (phase : Phase) → phase ≢ Recovering → begun_seen phase p.store p.workers ≡ listed (λ s. entry_list (r.entries s)) 0 p.store.taken
begun-running p r Opened not = begun_is p r
begun-running p r Running not = begun_is p r
begun-running p r Recovering not = absurd (not refl)

pub shows : (p : Parts) (r : IsRunning p) → p.phase ≢ Recovering → Shows (seen p) r.entries (typed p.store r.beside)
shows p r phase =
    let begun = begun-running p r p.phase phase in
    record {
      values = value_is p r;
      effects = λ s. refl;
      misses = λ s. refl;
      named = λ a. ap (λ b. is_among b a) begun ∙ sym (r.named a);
      entries = λ s below. ap (λ b. get_or b s []) begun ∙ listed-at (λ t. entry_list (r.entries t)) 0 p.store.taken s [] below ∙ ap (λ t. entry_list (r.entries t)) (omega arith);
    }

pub quiet-shown : (m n : SwapMemory) (e : ℕ → Entries) (x y : Memory) → Shows m e x → Shows n e y → machine.Quiet e x y → NoneTakesEffect m n
quiet-shown m n e x y f g q = record {
  values = λ a named. g.values a ∙ q.content a (sym (f.named a) ∙ named) ∙ sym (f.values a);
  swaps = λ s. g.effects s ∙ q.swaps s ∙ sym (f.effects s);
}

pub effect-shown : (m n : SwapMemory) (e : ℕ → Entries) (x y : Memory) (s w : ℕ) → Shows m e x → Shows n e y → machine.TakesEffect e x y s → s < x.taken → doing_of m w ≡ Swapping s → TakesEffect m n s
effect-shown m n e x y s w f g t begun pending =
    let is = f.entries s begun in
    record {
      worker = w;
      pending = pending;
      before = f.effects s ∙ t.before;
      done = g.effects s ∙ t.done;
      other_swaps = λ u ne. g.effects u ∙ t.other_swaps u ne ∙ sym (f.effects u);
      expected = rw is (all-listed (λ (u : Entry). value_at m u.target ≡ u.expected) (entry_of (e s)) (e s).count (λ i below. f.values ((e s).target i) ∙ t.expected i below));
      value = rw is (all-listed (λ (u : Entry). value_at n u.target ≡ u.new) (entry_of (e s)) (e s).count (λ i below. g.values ((e s).target i) ∙ t.value i below));
      others = λ a named other. g.values a ∙ t.others a (sym (f.named a) ∙ named) (λ i below is_target_i. absurd (no_target i a below is_target_i (rw is at other))) ∙ sym (f.values a);
    }
  where
    no_target : (i a : ℕ) → i < (e s).count → a ≡ (e s).target i → is_target (entry_list (e s)) a ≡ false → ⊥
    no_target i a below here other = true≢false (sym (listed-target (e s) a 0 (e s).count i (omega arith) (omega (arith, below)) (sym here)) ∙ other)

pub misses-shown : (m n : SwapMemory) (e : ℕ → Entries) (x y : Memory) → Shows m e x → Shows n e y → ((s : ℕ) → x.taken ≤ s → (e s).count ≡ 0) → machine.NotesMiss e x y → NotesMisses m n
misses-shown m n e x y f g none h = record {
  lawful = λ s before after. (let told = h.lawful s (sym (f.misses s) ∙ before) (sym (g.misses s) ∙ after) in (f.effects s ∙ told.0, differs s told.1));
  kept = λ s noted. g.misses s ∙ h.kept s (sym (f.misses s) ∙ noted);
}
  where
    differs : (s : ℕ) → machine.TargetDiffers e x s → SomeDiffers m (entries_of m s)
    differs s d all = elim (cases_lt s x.taken) [
      | inl begun ↦ (let whole : All (λ (u : Entry). value_at m u.target ≡ u.expected) (entry_list (e s)) = subst (All (λ (u : Entry). value_at m u.target ≡ u.expected)) (f.entries s begun) all in
          d.differs (sym (f.values ((e s).target d.entry)) ∙ listed-all (λ (u : Entry). value_at m u.target ≡ u.expected) (entry_of (e s)) (e s).count whole d.entry d.below))
      | inr past ↦ absurd (omega (arith, d.below, none s past))
    ]
