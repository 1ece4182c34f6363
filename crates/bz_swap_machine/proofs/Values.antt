-- The acts that change a word for a value that it stands for: a dirty bit is cleared, or a final value is put.
use Rattle.std.proofs.Common.{if◌then◌else◌, Bool, false, ◌⊎◌, ◌≡◌, ℕ, ◌==◌, ◌<◌, true, arith, refl, inl, inr}
use Rattle.std.proofs.lemmas.Grind.{common_steps}
use Rattle.bz_word.specs.declared.kind.WordKind.{WordKind}
use Rattle.bz_word.specs.declared.kind.WordKind.TheVariants.{Value, Dirty, Swap, Tag}
use Rattle.bz_swap_machine.specs.declared.status.Verdict.{Verdict}
use Rattle.bz_swap_machine.specs.declared.status.Verdict.TheVariants.{Succeeded, Failed}
use Rattle.bz_swap_machine.specs.Machine.{Entries, Memory, is_verdict, resolve}
use Rattle.bz_swap_machine.specs.Sound.{AreApart, Sound}
use Rattle.bz_swap_machine.specs.Facts.{Fact}
use Rattle.bz_swap_machine.specs.declared.place.HelpStep.TheVariants.{PutFinal, SweepTag}
use Rattle.bz_swap_machine.specs.declared.place.Next.TheVariants.{Step}
use Rattle.bz_swap_machine.specs.HelpActs.{final_value, cleared_word, after_put_final}
use Rattle.bz_swap_machine.proofs.Fine.{Fine, fine-same, fine-if, fact-if, fact-finished}
use Rattle.bz_swap_machine.proofs.Words.{Lawful, change-word}
use Rattle.bz_swap_machine.proofs.Change.{Change, change-same}
use Rattle.bz_swap_machine.proofs.Published.{one_verdict}

-- a word is changed for a plain or dirty value that it stands for
pub lawful-value : (e : ℕ → Entries) (m : Memory) (a v : ℕ) (x : WordKind) → m.named a ≡ true → (x ≡ Value v) ⊎ (x ≡ Dirty v) → resolve e m.durable_status a (m.cached a) ≡ v
    → ((s : ℕ) → m.cached a ≡ Swap s → (d : Verdict) × (is_verdict (m.durable_status s) d ≡ true)) → Lawful e m a x m.next_tag
lawful-value e m a v x nm c h d = grind (arith, common_steps, d)

change-if : (e : ℕ → Entries) (m : Memory) (s : ℕ) (b : Bool) (x y : Memory) → (b ≡ true → Change e m x s) → (b ≡ false → Change e m y s) → Change e m (if b then x else y) s
change-if e m s true x y f g = f refl
change-if e m s false x y f g = g refl

-- a dirty value stands only at a named address
dirty-named : (e : ℕ → Entries) (m : Memory) (a u : ℕ) (b : Bool) → m.named a ≡ b → m.cached a ≡ Dirty u → Sound e m → b ≡ true
dirty-named e m a u true nm h g = refl
dirty-named e m a u false nm h g = let plain = g.private a nm in absurd (rw h at plain)

-- a dirty value becomes the plain one
pub change-cleared : (e : ℕ → Entries) (m : Memory) (s a v : ℕ) (found : WordKind) → m.cached a ≡ found → Sound e m → Change e m (cleared_word m a v found) s
change-cleared e m s a v (Value u) h g = change-same e m s g
change-cleared e m s a v (Swap t) h g = change-same e m s g
change-cleared e m s a v (Tag t j u q) h g = change-same e m s g
change-cleared e m s a v (Dirty u) h g = change-if e m s (u == v) _ _
    (λ b. change-word e m a (Value v) s
    (lawful-value e m a v (Value v) (dirty-named e m a u (m.named a) refl h g) (inl refl) (grind (arith, common_steps)) (λ t eq. grind arith)) g)
    (λ b. change-same e m s g)

-- the value that a verdict leaves is what the pointer stands for
final-value : (e : ℕ → Entries) (m : Memory) (s i : ℕ) (d : Verdict) → AreApart e → i < (e s).count → is_verdict (m.durable_status s) d ≡ true → resolve e m.durable_status ((e s).target i) (Swap s) ≡ final_value (e s) i d
final-value e m s i Succeeded o lt h = grind (arith, common_steps, o s i lt)
final-value e m s i Failed o lt h = grind (arith, common_steps, o s i lt, one_verdict (m.durable_status s))

pub fine-put_final : (e : ℕ → Entries) (m : Memory) (w s i : ℕ) (d : Verdict) (found : WordKind) → m.cached ((e s).target i) ≡ found → AreApart e → Fact e m w s (PutFinal i d) → Sound e m
    → Fine e m w s (after_put_final (e s) m s i d found)
fine-put_final e m w s i d (Value v) h o f g = fine-same e m w s _ g (fact-finished e m w s i d f.0 f.1)
fine-put_final e m w s i d (Dirty v) h o f g = fine-same e m w s _ g (fact-finished e m w s i d f.0 f.1)
fine-put_final e m w s i d (Tag t j v q) h o f g = fine-same e m w s _ g (fact-if e m w s (t == s) (Step (SweepTag i d v q)) _ (λ b. f) (λ b. fact-finished e m w s i d f.0 f.1))
fine-put_final e m w s i d (Swap t) h o f g = fine-if e m w s (t == s) _ _
    (λ b. let eq : m.cached ((e s).target i) ≡ Swap s = grind (arith, common_steps) in
    let l : Lawful e m ((e s).target i) (Dirty (final_value (e s) i d)) m.next_tag = lawful-value e m _ _ _ (g.targets s i f.0) (inr refl) (rw eq (final-value e m s i d o f.0 f.1)) (λ u k. (d, grind (arith, f.1))) in
    record { change = change-word e m _ _ s l g; fact = f })
    (λ b. fine-same e m w s _ g (fact-finished e m w s i d f.0 f.1))
