-- A swap is begun: its entries are known from now on, and its targets are named.
use Rattle.std.proofs.Common.{◌≡◌, ◌≢◌, ℕ, ◌*◌, if◌then◌else◌, ◌<◌, ◌≤◌, Bool, true, false, arith, refl, sym, ap, subst}
use Rattle.std.proofs.lemmas.Grind.{common_steps}
use Rattle.bz_word.specs.declared.kind.WordKind.{WordKind}
use Rattle.bz_word.specs.declared.kind.WordKind.TheVariants.{Value, Dirty, Swap, Tag}
use Rattle.bz_swap_machine.specs.declared.status.SwapStatus.{SwapStatus}
use Rattle.bz_swap_machine.specs.Machine.{Entries, Memory, spelled, is_succeeded, resolve, MayLast, FieldMayLast}
use Rattle.bz_swap_machine.specs.Changes.{put}
use Rattle.bz_swap_machine.specs.Sound.{IsUnset, IsTarget, IsEntry, Sound}
use Rattle.bz_swap_machine.specs.Changes.{with_taken}
use Rattle.bz_swap_machine.specs.Content.{content}
use Rattle.bz_swap_machine.proofs.Lasting.{lasts-durable}

pub put-other : {A : Type 0} (f : ℕ → A) (s : ℕ) (v : A) (t : ℕ) → t ≢ s → put f s v t ≡ f t
put-other f s v t ne = grind (arith, common_steps)

-- a swap that is not begun stands nowhere
published-begun : (e : ℕ → Entries) (m : Memory) (t : ℕ) → Sound e m → m.published t ≡ true → t ≢ m.taken
published-begun e m t g p = grind (arith, g.not_begun t)

resolve-taken : (e : ℕ → Entries) (st : ℕ → SwapStatus) (s : ℕ) (new : Entries) (a : ℕ) (x : WordKind) → x ≢ Swap s → ((i w q : ℕ) → x ≢ Tag s i w q) → resolve (put e s new) st a x ≡ resolve e st a x
resolve-taken e st s new a (Value v) p t = refl
resolve-taken e st s new a (Dirty v) p t = refl
resolve-taken e st s new a (Swap u) p t = let other : u ≢ s = λ h. p (ap Swap h) in grind (arith, common_steps)
resolve-taken e st s new a (Tag u i w q) p t = let other : u ≢ s = λ h. t i w q (ap (λ r. Tag r i w q) h) in grind (arith, common_steps)

-- what a word stands for does not rest on the entries of a swap that is only begun
cached-taken : (e : ℕ → Entries) (m : Memory) (new : Entries) (a : ℕ) → Sound e m → resolve (put e m.taken new) m.durable_status a (m.cached a) ≡ resolve e m.durable_status a (m.cached a)
cached-taken e m new a g = resolve-taken e m.durable_status m.taken new a (m.cached a)
    (λ h. published-begun e m m.taken g (g.pointer a m.taken h).standing refl) (λ i w q h. published-begun e m m.taken g (g.tag a m.taken i w q h).standing refl)

lasting-taken : (e : ℕ → Entries) (m : Memory) (new : Entries) (a : ℕ) (x : WordKind) → MayLast m a x → Sound e m → resolve (put e m.taken new) m.durable_status a x ≡ resolve e m.durable_status a x
lasting-taken e m new a x may g = resolve-taken e m.durable_status m.taken new a x
    (λ h. published-begun e m m.taken g (g.pointer_durable a m.taken x may h).standing refl) (λ i w q h. published-begun e m m.taken g (g.tag_durable a m.taken i w q x may h).standing refl)

pub content-taken : (e : ℕ → Entries) (m : Memory) (new : Entries) (a : ℕ) → Sound e m → content (put e m.taken new) m a ≡ content e m a
content-taken e m new a g = lasting-taken e m new a (m.durable a) (lasts-durable _ _) g

same-taken : (e : ℕ → Entries) (m : Memory) (new : Entries) (targets : ℕ → Bool) (a : ℕ) (x : WordKind) (old now : Bool) → m.named a ≡ old → targets a ≡ now → MayLast m a x → (if now then true else old) ≡ true
    → ((b : ℕ) (y : WordKind) → targets b ≡ true → m.named b ≡ false → MayLast m b y → y ≡ m.cached b) → Sound e m → resolve (put e m.taken new) m.durable_status a (m.cached a) ≡ resolve (put e m.taken new) m.durable_status a x
same-taken e m new targets a x true now h h' may nm flushed g = rw (cached-taken e m new a g, lasting-taken e m new a x may g) (g.same a x may h)
same-taken e m new targets a x false true h h' may nm flushed g = ap (resolve (put e m.taken new) m.durable_status a) (sym (flushed a x h' h may))
same-taken e m new targets a x false false h h' may nm flushed g = absurd (grind (arith, nm))

target-taken : (e : ℕ → Entries) (m : Memory) (new : Entries) (t a : ℕ) → Sound e m → IsTarget e m.published t a → IsTarget (put e m.taken new) m.published t a
target-taken e m new t a g h =
    let same : put e m.taken new t ≡ e t = put-other e m.taken new t (published-begun e m t g h.standing) in
    record { standing = h.standing; entry = rw same h.entry; target = rw same h.target }

entry-taken : (e : ℕ → Entries) (m : Memory) (new : Entries) (t i a : ℕ) → Sound e m → IsEntry e m.published t i a → IsEntry (put e m.taken new) m.published t i a
entry-taken e m new t i a g h =
    let same : put e m.taken new t ≡ e t = put-other e m.taken new t (published-begun e m t g h.standing) in
    record { standing = h.standing; entry = rw same h.entry; target = rw same h.target }

spelled-taken : (e : ℕ → Entries) (m : Memory) (new : Entries) (t : ℕ) → m.published t ≡ true → Sound e m → (words : ℕ → ℕ)
    → ((k : ℕ) → k ≤ 3 * (e t).count → words k ≡ spelled (e t) k) → (k : ℕ) → k ≤ 3 * (put e m.taken new t).count → words k ≡ spelled (put e m.taken new t) k
spelled-taken e m new t p g words h =
    let same : put e m.taken new t ≡ e t = put-other e m.taken new t (published-begun e m t g p) in
    subst (λ x. (k : ℕ) → k ≤ 3 * x.count → words k ≡ spelled x k) (sym same) h

field-taken : (e : ℕ → Entries) (m : Memory) (new : Entries) (t k v : ℕ) → m.published t ≡ true → Sound e m → (k ≤ 3 * (e t).count → v ≡ spelled (e t) k) → k ≤ 3 * (put e m.taken new t).count → v ≡ spelled (put e m.taken new t) k
field-taken e m new t k v p g h =
    let same : put e m.taken new t ≡ e t = put-other e m.taken new t (published-begun e m t g p) in
    rw same h

unset-success : (k : SwapStatus) → IsUnset k → is_succeeded k ≡ false
unset-success k u = grind arith

pub sound-taken : (e : ℕ → Entries) (m : Memory) (w : ℕ) (new : Entries) (targets : ℕ → Bool) → 0 < new.count → ((i : ℕ) → i < new.count → targets (new.target i) ≡ true)
    → ((b : ℕ) (y : WordKind) → targets b ≡ true → m.named b ≡ false → MayLast m b y → y ≡ m.cached b) → Sound e m → Sound (put e m.taken new) (with_taken m w targets)
sound-taken e m w new targets some told flushed g =
    let n : Memory = with_taken m w targets in
    let f : ℕ → Entries = put e m.taken new in
    let same : (b : ℕ) (x : WordKind) → MayLast m b x → n.named b ≡ true → resolve f m.durable_status b (m.cached b) ≡ resolve f m.durable_status b x = λ b x may nm. same-taken e m new targets b x (m.named b) (targets b) refl refl may nm flushed g in
    let pointer : (b t : ℕ) → m.cached b ≡ Swap t → IsTarget f m.published t b = λ b t h. target-taken e m new t b g (g.pointer b t h) in
    let pointer_durable : (b t : ℕ) (x : WordKind) → MayLast m b x → x ≡ Swap t → IsTarget f m.published t b = λ b t x may h. target-taken e m new t b g (g.pointer_durable b t x may h) in
    let tag : (b t i v q : ℕ) → m.cached b ≡ Tag t i v q → IsEntry f m.published t i b = λ b t i v q h. entry-taken e m new t i b g (g.tag b t i v q h) in
    let tag_durable : (b t i v q : ℕ) (x : WordKind) → MayLast m b x → x ≡ Tag t i v q → IsEntry f m.published t i b = λ b t i v q x may h. entry-taken e m new t i b g (g.tag_durable b t i v q x may h) in
    let words : (t k : ℕ) → m.published t ≡ true → k ≤ 3 * (f t).count → m.words t k ≡ spelled (f t) k = λ t k p le. spelled-taken e m new t p g (m.words t) (λ j below. g.words t j p below) k le in
    let durable_words : (t k v : ℕ) → FieldMayLast m t k v → m.published t ≡ true → k ≤ 3 * (f t).count → v ≡ spelled (f t) k = λ t k v may p le. field-taken e m new t k v p g (λ below. g.durable_words t k v may p below) le in
    grind (arith, common_steps, same, pointer, pointer_durable, tag, tag_durable, words, durable_words, told, unset-success, g)
