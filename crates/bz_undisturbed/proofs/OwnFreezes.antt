-- After its own freezes a merge whose worker is alone finds what it names as it had read it: directly before each freeze it was so, the freeze
-- leaves it, and nothing changes after.
use Rattle.std.proofs.Common.{◌≡◌, ℕ, ◌+◌, ◌≤◌, true, false, if◌then◌else◌, arith, sym, ap, subst, ◌∙◌, inl, inr}
use Rattle.std.specs.Prelude.{slice_index}
use Rattle.bz_layout.specs.Addresses.{node_address}
use Rattle.bz_layout.specs.declared.sizes.TheConstants.{STATUS_AT}
use Rattle.bz_layout.proofs.Laws.{slots_apart}
use Rattle.bz_word.specs.Statuses.{status}
use Rattle.bz_task.specs.Instant.{Instant}
use Rattle.bz_task.specs.Scene.{Past, Scene, IsScene, here}
use Rattle.bz_task.specs.Shown.{IsRead}
use Rattle.bz_below.specs.FromSplit.BelowSplits.{AreLinksDown}
use Rattle.bz_any_task.specs.FromMerge.Counts.{freezes_of, both_freezes}
use Rattle.bz_any_task.specs.FromMerge.OwnFreezes.{FrozeAfter, FrozeViewed, ViewedWasFrozen, FrozeBeside, BothWereFrozen}
use Rattle.bz_any_task.specs.FromMerge.Plans.{Merging, viewed_leaf, beside_leaf}
use Rattle.bz_any_task.specs.FromMerge.Siblings.{SeenLeaf}
use Rattle.bz_undisturbed.specs.Undisturbed.{IsUndisturbed}
use Rattle.bz_undisturbed.specs.Quiet.{IsQuietSince, HadEffects}
use Rattle.bz_undisturbed.proofs.Named.{WasSeenOnce, both-seen, pair-apart, AsRead, leaf-as-seen, quiet-as-read, guard-now, link-now, left-as-read}
use Rattle.bz_undisturbed.proofs.Standing.{now-as}
use Rattle.bz_undisturbed.proofs.Quiet.{undisturbed, never-fall}

-- effects around a freeze
module _ (s : Scene) (good : IsScene s) (r : Merging) (l : SeenLeaf) (z : Scene) (f : FrozeAfter r l z s.past) where
  abbrev m : ℕ
  m = z.past.now + 1

  same-begin : (s.past.at s.past.since).effects ≡ (z.past.at z.past.since).effects
  same-begin = ap (λ (i : ℕ). (s.past.at i).effects) f.earlier.since ∙ ap (λ (x : Instant). x.effects) (f.earlier.at z.past.since f.earlier.good.begun)

  after-begin : s.past.since ≤ m
  after-begin = omega (arith, f.earlier.since, f.earlier.good.begun)

  pub none-lost : (z.past.at z.past.since).effects + 0 ≤ (here z).effects
  none-lost =
      let up : (z.past.at z.past.since).effects ≤ (here z).effects = never-fall z.past.config z.past.at z.past.since z.past.now z.past.since z.past.now f.earlier.good.history (record { since = omega arith; order = f.earlier.good.begun; until = omega arith }) in
      omega (arith, up)

  pub undisturbed-before : (made : ℕ) → (z.past.at z.past.since).effects + made ≤ (here z).effects → IsUndisturbed (made + 1) s.past → IsUndisturbed made z.past
  undisturbed-before made least a =
      let up : (s.past.at m).effects ≤ (here s).effects = never-fall s.past.config s.past.at s.past.since s.past.now m s.past.now good.history (record { since = after-begin; order = f.earlier.now; until = omega arith }) in
      omega (arith, up, least, a, f.effects, same-begin)

  pub had-then : (made : ℕ) → (z.past.at z.past.since).effects + made ≤ (here z).effects → HadEffects (made + 1) m s.past
  had-then made least = record { since = after-begin; now = f.earlier.now; effects = omega (arith, least, f.effects, same-begin) }

  -- so many effects there are at least since
  pub one-at-least : (s.past.at s.past.since).effects + 1 ≤ (here s).effects
  one-at-least =
      let up : (s.past.at m).effects ≤ (here s).effects = never-fall s.past.config s.past.at s.past.since s.past.now m s.past.now good.history (record { since = after-begin; order = f.earlier.now; until = omega arith }) in
      omega (arith, up, none-lost, f.effects, same-begin)

  -- a value that is read now is what it was directly after the freeze, where nothing came since
  pub value-since : (made : ℕ) → HadEffects made m s.past → IsUndisturbed made s.past → (x : ℕ) → IsRead s.past.config (here s) x → (here s).value x ≡ (s.past.at m).value x
  value-since made h a x read =
      let q : IsQuietSince m s.past = undisturbed.later s made m good a h in
      now-as s good m q s.past.now m x q.now (omega arith) read (omega arith) q.now

  pub read-since : (made : ℕ) → HadEffects made m s.past → IsUndisturbed made s.past → AreLinksDown r.upper r.lower s.past → AsRead r (s.past.at m) → AsRead r (here s)
  read-since made h a d x = record {
    link = value-since made h a r.upper.link (link-now s good r.upper d.upper_guard) ∙ x.link;
    guard = value-since made h a r.upper.guard (guard-now s good r.upper d.upper_guard) ∙ x.guard;
    parent = value-since made h a r.lower.guard (guard-now s good r.lower d.guard) ∙ x.parent;
  }

-- an own freeze counts, and one that was not needed does not
no-freeze : (own : ℕ) (p : Past) → (status own).frozen ≡ true → IsUndisturbed (freezes_of own) p → IsUndisturbed 0 p
no-freeze own p e a = subst (λ t. IsUndisturbed (if t then 0 else 1) p) e a

one-freeze : (own : ℕ) (p : Past) → (status own).frozen ≡ false → IsUndisturbed (freezes_of own) p → IsUndisturbed 1 p
one-freeze own p e a = subst (λ t. IsUndisturbed (if t then 0 else 1) p) e a

no-more : (own : ℕ) (made : ℕ) (p : Past) → (status own).frozen ≡ true → IsUndisturbed (made + freezes_of own) p → IsUndisturbed made p
no-more own made p e a =
    let none : made + 0 ≡ made = omega arith in
    subst (λ n. IsUndisturbed n p) none (subst (λ t. IsUndisturbed (made + (if t then 0 else 1)) p) e a)

one-more : (own : ℕ) (made : ℕ) (p : Past) → (status own).frozen ≡ false → IsUndisturbed (made + freezes_of own) p → IsUndisturbed (made + 1) p
one-more own made p e a = subst (λ t. IsUndisturbed (made + (if t then 0 else 1)) p) e a

least-one : (own : ℕ) (s : Scene) → (status own).frozen ≡ false → (s.past.at s.past.since).effects + 1 ≤ (here s).effects → (s.past.at s.past.since).effects + freezes_of own ≤ (here s).effects
least-one own s e h = subst (λ t. (s.past.at s.past.since).effects + (if t then 0 else 1) ≤ (here s).effects) (sym e) h

least-none : (own : ℕ) (s : Scene) → (status own).frozen ≡ true → (s.past.at s.past.since).effects + 0 ≤ (here s).effects → (s.past.at s.past.since).effects + freezes_of own ≤ (here s).effects
least-none own s e h = subst (λ t. (s.past.at s.past.since).effects + (if t then 0 else 1) ≤ (here s).effects) (sym e) h

module _ (s : Scene) (good : IsScene s) (r : Merging) where
  -- after the freeze of the viewed leaf, which nothing came before
  module _ (w : FrozeViewed r s.past) (a : IsUndisturbed 1 s.past) where
    abbrev z : Scene
    z = w.before

    least : (z.past.at z.past.since).effects + 0 ≤ (here z).effects
    least = none-lost s good r (viewed_leaf r) z w.froze

    quiet : IsQuietSince z.past.since z.past
    quiet = undisturbed.whole z w.froze.earlier.good (undisturbed-before s good r (viewed_leaf r) z w.froze 0 least a)

    had : HadEffects 1 (z.past.now + 1) s.past
    had = had-then s good r (viewed_leaf r) z w.froze 0 least

    viewed-as-read : AreLinksDown r.upper r.lower s.past → AsRead r (here s)
    viewed-as-read d =
        let plan = w.froze.planned in
        read-since s good r (viewed_leaf r) z w.froze 1 had a d
        (left-as-read z w.froze.earlier.good r (viewed_leaf r) s.past (both-seen r z.past plan).0 w.froze (quiet-as-read z w.froze.earlier.good quiet r plan.paired.viewed.links))

    -- the neighbour has the status that was read
    beside-after : IsRead s.past.config (here s) (node_address s.past.config r.beside_slot + STATUS_AT) → (here s).value (node_address s.past.config r.beside_slot + STATUS_AT) ≡ slice_index r.beside STATUS_AT
    beside-after read =
        let plan = w.froze.planned in
        let address : node_address s.past.config r.beside_slot + STATUS_AT ≡ node_address z.past.config r.beside_slot + STATUS_AT = ap (λ c. node_address c r.beside_slot + STATUS_AT) w.froze.earlier.config in
        value-since s good r (viewed_leaf r) z w.froze 1 had a (node_address s.past.config r.beside_slot + STATUS_AT) read
        ∙ (ap (s.past.at (z.past.now + 1)).value address
        ∙ (w.froze.others (node_address z.past.config r.beside_slot + STATUS_AT)
        (λ e. pair-apart r.read r.lower.slot r.right r.place r.beside_slot plan.paired.pair (sym (slots_apart z.past.config r.beside_slot r.lower.slot STATUS_AT STATUS_AT (omega arith) (omega arith) e).0))
        ∙ leaf-as-seen z w.froze.earlier.good quiet (beside_leaf r) (both-seen r z.past plan).1))

  -- once the viewed leaf is frozen
  pub own-as-read : ViewedWasFrozen r s.past → IsUndisturbed (freezes_of r.status) s.past → AreLinksDown r.upper r.lower s.past → AsRead r (here s)
  own-as-read (inl e) a d = quiet-as-read s good (undisturbed.whole s good (no-freeze r.status s.past e a)) r d
  own-as-read (inr w) a d = viewed-as-read w (one-freeze r.status s.past w.froze.thawed a) d

  pub beside-as-read : ViewedWasFrozen r s.past → IsUndisturbed (freezes_of r.status) s.past → WasSeenOnce (beside_leaf r) s.past → IsRead s.past.config (here s) (node_address s.past.config r.beside_slot + STATUS_AT)
      → (here s).value (node_address s.past.config r.beside_slot + STATUS_AT) ≡ slice_index r.beside STATUS_AT
  beside-as-read (inl e) a seen read = leaf-as-seen s good (undisturbed.whole s good (no-freeze r.status s.past e a)) (beside_leaf r) seen
  beside-as-read (inr w) a seen read = beside-after w (one-freeze r.status s.past w.froze.thawed a) read

  pub own-least : ViewedWasFrozen r s.past → (s.past.at s.past.since).effects + 0 ≤ (here s).effects → (s.past.at s.past.since).effects + freezes_of r.status ≤ (here s).effects
  own-least (inl e) none = least-none r.status s e none
  own-least (inr w) none = least-one r.status s w.froze.thawed (one-at-least s good r (viewed_leaf r) w.before w.froze)

-- once both are
module _ (s : Scene) (good : IsScene s) (r : Merging) (d : AreLinksDown r.upper r.lower s.past) where
  beside-frozen : FrozeBeside r s.past → IsUndisturbed (both_freezes r) s.past → AsRead r (here s)
  beside-frozen w a =
      let z = w.before in
      let before : IsScene z = w.froze.earlier.good in
      let plan = w.froze.planned in
      let made : ℕ = freezes_of r.status in
      let now : IsUndisturbed (made + 1) s.past = one-more (slice_index r.beside STATUS_AT) made s.past w.froze.thawed a in
      let least : (z.past.at z.past.since).effects + made ≤ (here z).effects = own-least z before r w.viewed (none-lost s good r (beside_leaf r) z w.froze) in
      read-since s good r (beside_leaf r) z w.froze (made + 1) (had-then s good r (beside_leaf r) z w.froze made least) now d
      (left-as-read z before r (beside_leaf r) s.past (both-seen r z.past plan).1 w.froze
      (own-as-read z before r w.viewed (undisturbed-before s good r (beside_leaf r) z w.froze made least now) plan.paired.viewed.links))

  pub both-as-read : BothWereFrozen r s.past → IsUndisturbed (both_freezes r) s.past → AsRead r (here s)
  both-as-read (inl e) a = own-as-read s good r e.1 (no-more (slice_index r.beside STATUS_AT) (freezes_of r.status) s.past e.0 a) d
  both-as-read (inr w) a = beside-frozen w a
