-- The words of the machine's state are lawful, and plain words are values.
use Rattle.std.specs.Prelude.{◌≡◌, ◌≢◌, nat_lt, ℕ, ◌^◌, ◌<◌, true, List, slice_index, All, [], get_or, ◌≤◌, ◌⊎◌}
use Rattle.std.proofs.lemmas.Bool.{cases_lt}
use Rattle.bz_word.specs.declared.entry.Entry.{Entry}
use Rattle.std.proofs.Common.{arith, refl, ap, sym, subst, ◌∙◌, inl, inr}
use Rattle.std.proofs.lemmas.Grind.{common_steps}
use Rattle.bz_word.specs.Kinds.{kind, word, IsKind, IsWord}
use Rattle.bz_word.proofs.Lemmas.KindWords.{word-kind, IsKind-kind}
use Rattle.bz_word.specs.declared.kind.WordKind.{WordKind}
use Rattle.bz_word.specs.declared.kind.WordKind.TheVariants.{Value, Dirty, Swap, Tag}
use Rattle.bz_swap_machine.specs.declared.status.SwapStatus.{SwapStatus}
use Rattle.bz_swap_machine.specs.declared.status.SwapStatus.TheVariants.{Free, Undecided, Deciding, Decided}
use Rattle.bz_swap_machine.specs.Machine.{resolve as resolved}
use Rattle.bz_swap_machine.specs.Sound.{Follows, IsPlain}
use Rattle.bz_swap_cells.specs.Store.{IsOutside, is_outside, kind_at, status_at}
use Rattle.bz_swap.specs.declared.phase.Phase.{Phase}
use Rattle.bz_swap.specs.declared.phase.Phase.TheVariants.{Opened, Running, Recovering}
use Rattle.bz_swap.specs.Held.{IsHeld, HoldsIn}
use Rattle.bz_swap.specs.Lawful.{IsReadable, HasEntry, IsLawfulKind}
use Rattle.bz_swap.specs.Resolve.{entries_at}
use Rattle.bz_swap.specs.SwapMemory.{entries_of}
use Rattle.bz_swap.specs.Starts.{IsAddress}
use Rattle.bz_swap.specs.Inside.Parts.{Parts, entry_of, entry_list, seen}
use Rattle.bz_swap.specs.Inside.Kept.{IsRunning}
use Rattle.bz_swap.proofs.Readable.{agree-published, index-target, value_is}
use Rattle.bz_swap.proofs.Readies.{published-begun, begun-descriptor}
use Rattle.bz_swap.proofs.Shown.{shows, begun-running}
use Rattle.bz_swap.proofs.StatusAsks.{asked-current}
use Rattle.bz_swap.proofs.Values.{all-listed, listed-past}
use Rattle.bz_swap_machine.proofs.Lasting.{lasts-durable}

not-free : (c d : SwapStatus) → Follows c d → d ≢ Free
not-free c Free f is = no_free c f
  where
    no_free : (c : SwapStatus) → Follows c Free → ⊥
    no_free Free f = f
    no_free Undecided f = f
    no_free (Deciding v) f = f
    no_free (Decided v) f = f
not-free c Undecided f is = absurd cc
not-free c (Deciding d) f is = absurd cc
not-free c (Decided d) f is = absurd cc

readable : (p : Parts) (r : IsRunning p) (s : ℕ) → r.beside.published s ≡ true → IsReadable p.store.swaps p.store.durable s
readable p r s published =
    let agree = agree-published p r s published in
    let begun = published-begun p r s published in
    let values = r.range.values s in
    record {
      number = begun-descriptor p r s begun;
      status = not-free _ _ (r.state.sound.follows s _ (lasts-durable _ _) published);
      some = rw agree.count (r.state.sound.begun s begun);
      count = rw agree.count values.count;
      expected = λ i below. (let within : i < (r.entries s).count = omega (arith, below, agree.count) in rw (agree.expected i within) (values.expected i within));
      value = λ i below. (let within : i < (r.entries s).count = omega (arith, below, agree.count) in rw (agree.value i within) (values.value i within));
    }

has-entry : (p : Parts) (r : IsRunning p) (s i a : ℕ) → r.beside.published s ≡ true → i < (r.entries s).count → (r.entries s).target i ≡ a → HasEntry (entries_at p.store.swaps p.store.durable s) i a
has-entry p r s i a published below is =
    let agree = agree-published p r s published in
    record { entry = rw agree.count below; target = agree.target i below ∙ is }

lawful-kind : (p : Parts) (r : IsRunning p) (a : ℕ) (x : WordKind) → x ≡ kind_at p.store.swaps p.store.durable a → IsLawfulKind p.store.swaps p.store.durable a x
lawful-kind p r a (Value v) is = tt
lawful-kind p r a (Dirty v) is = tt
lawful-kind p r a (Swap s) is =
    let t = r.state.sound.pointer_durable a s _ (lasts-durable _ _) (sym is) in
    (readable p r s t.standing, rw (index-target p r s a t) (has-entry p r s ((r.entries s).index a) a t.standing t.entry t.target))
lawful-kind p r a (Tag s i w q) is =
    let t = r.state.sound.tag_durable a s i w q _ (lasts-durable _ _) (sym is) in
    (readable p r s t.standing, has-entry p r s i a t.standing t.entry t.target)

pub outside_told : (swaps a : ℕ) → IsOutside swaps a → is_outside swaps a ≡ true
outside_told swaps a (inl below) = grind (arith, common_steps)
outside_told swaps a (inr above) = grind (arith, common_steps)

-- a plain word is its value
pub plain-raw : (swaps : ℕ) (words : List ℕ) (a : ℕ) → IsOutside swaps a → IsWord (slice_index words a) → (x : WordKind) → kind_at swaps words a ≡ x → IsPlain x
    → (slice_index words a < 2 ^ 61) × (x ≡ Value (slice_index words a))
plain-raw swaps words a out is_word (Value v) is plain =
    let told : kind (slice_index words a) ≡ Value v = rw (outside_told swaps a out) at is in
    let raw : slice_index words a ≡ v = sym (word-kind (slice_index words a) is_word) ∙ ap word told in
    let fits : v < 2 ^ 61 = subst IsKind told (IsKind-kind (slice_index words a) is_word) in
    (omega (arith, raw, fits), ap Value (sym raw))
plain-raw swaps words a out is_word (Dirty v) is plain = absurd plain
plain-raw swaps words a out is_word (Swap s) is plain = absurd plain
plain-raw swaps words a out is_word (Tag s i w q) is plain = absurd plain

-- the targets of a swap lie outside the descriptors
targets-lie : (p : Parts) (r : IsRunning p) (s : ℕ) → p.phase ≢ Recovering → (s < p.store.taken) ⊎ (p.store.taken ≤ s) → All (λ (e : Entry). IsAddress (seen p) e.target) (entries_of (seen p) s)
targets-lie p r s phase (inl begun) =
    subst (All (λ (e : Entry). IsAddress (seen p) e.target)) (sym ((shows p r phase).entries s begun))
    (all-listed (λ (e : Entry). IsAddress (seen p) e.target) (entry_of (r.entries s)) (r.entries s).count (λ i below. record { outside = (r.lies s i below).outside; within = (r.lies s i below).within }))
targets-lie p r s phase (inr past) =
    subst (All (λ (e : Entry). IsAddress (seen p) e.target))
    (sym (ap (λ b. get_or b s []) (begun-running p r p.phase phase) ∙ listed-past (λ t. entry_list (r.entries t)) 0 p.store.taken s [] past))
    (λ k d below. absurd (omega (arith, below)))

pub held : (p : Parts) (r : IsRunning p) → p.phase ≢ Recovering → IsHeld (seen p)
held p r phase =
    let f = shows p r phase in
    let sound = r.state.sound in
    record {
      memory = r.words.has_room.memory;
      taken = r.words.has_room.taken;
      lawful = λ a out. record { word = r.words.durable.kinds a out; kind = lawful-kind p r a _ refl };
      status = λ s below. (let told : nat_lt s p.store.swaps ≡ true = grind (arith, common_steps) in rw told (sym (r.words.durable.statuses s below)));
      cached_status = λ s below. (let told : nat_lt s p.store.swaps ≡ true = grind (arith, common_steps) in rw told (sym (r.words.cached.statuses s below)));
      plain = λ a v named is. value_is p r a ∙ sym (sound.same a _ (lasts-durable _ _) (sym (f.named a) ∙ named)) ∙ ap (λ x. resolved r.entries (status_at p.store.swaps p.store.durable) a x) is;
      targets = λ s. targets-lie p r s phase (cases_lt s p.store.taken);
      private = λ a out private.
          (let unnamed = sym (f.named a) ∙ private in
          let cached = plain-raw p.store.swaps p.store.cached a out (r.words.cached.kinds a out) _ refl (sound.private a unnamed) in
          let durable = plain-raw p.store.swaps p.store.durable a out (r.words.durable.kinds a out) _ refl (sound.private_durable a _ (lasts-durable _ _) unnamed) in
          (cached.0, value_is p r a ∙ ap (λ x. resolved r.entries (status_at p.store.swaps p.store.durable) a x) durable.1));
      asks = λ w s t lies lies' here there. asked-current p r w s lies here ∙ sym (asked-current p r w t lies' there);
    }

pub holds : (phase : Phase) (p : Parts) → (phase ≢ Recovering → IsHeld (seen p)) → HoldsIn phase (seen p)
holds Opened p h = h (λ is. absurd cc)
holds Running p h = h (λ is. absurd cc)
holds Recovering p h = tt
