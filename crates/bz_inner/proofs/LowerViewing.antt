-- What a path shows of the root.
use Rattle.std.proofs.Common.{◌≡◌, ℕ, ◌+◌, ◌<◌, ◌≤◌, Bool, true, false, List, arith, refl, sym, ap, subst, ◌∙◌, inl, inr, Some}
use Rattle.std.specs.Prelude.{◌↔◌, IsTrue, slice_get}
use Rattle.std.proofs.lemmas.Bool.{cases_lt, true≢false}
use Rattle.bz_layout.specs.Addresses.{node_address}
use Rattle.bz_layout.specs.declared.sizes.TheConstants.{STATUS_AT, ROOT_AT}
use Rattle.bz_layout.proofs.Laws.{slots_apart}
use Rattle.bz_task.specs.Instant.{words}
use Rattle.bz_task.specs.Outcomes.{IsPath, IsLink, IsUnderNode, EndsAtLeaf}
use Rattle.bz_task.specs.Scene.{Past}
use Rattle.bz_task.specs.declared.path.Link.{Link}
use Rattle.bz_task.specs.declared.path.Path.{Path}
use Rattle.bz_renew.proofs.Words.{node-at}
use Rattle.bz_inner.specs.Lone.{HasOneChild, IsLone}
use Rattle.bz_inner.specs.LowerFacts.{IsLinkIn, HasLoneRoot, WasNotLone, lower_begins}

one-link : (a b : Link) → Some a ≡ Some b → a ≡ b
one-link a b e = cc

module _ (key : List ℕ) (path : Path) (p : Past) (is : IsPath key path p) (upper lower : Link) (first : slice_get path.links 0 ≡ Some upper) (second : slice_get path.links 1 ≡ Some lower) where
  upper-on : IsLink key p upper
  upper-on = is.links 0 upper is.some first

  -- the root pointer led to the upper link's slot
  led : (p.at upper-on.guarded.read).value ROOT_AT ≡ upper.slot + 1
  led = ap (p.at upper-on.guarded.read).value (sym (is.first upper first).pointer) ∙ upper-on.guarded.slot

  module _ (deep : 2 ≤ path.depth) where
    lower-on : IsLink key p lower
    lower-on = is.links 1 lower (omega (arith, deep)) second

    guard-is : lower.guard ≡ node_address p.config upper.slot + STATUS_AT
    guard-is = is.below 0 upper lower (omega (arith, deep)) first second

    down : (u : IsUnderNode p lower lower-on.guarded.guarded) × (u.parent ≡ upper.slot)
    down = elim lower-on.guarded.under [
      | inl root ↦ absurd (omega (arith, root.guard, guard-is))
      | inr u ↦ (u, (slots_apart p.config u.parent upper.slot STATUS_AT STATUS_AT (omega arith) (omega arith) (sym u.guard ∙ guard-is)).0)
    ]

    link-in : IsLinkIn upper.slot lower p
    link-in = record { guard = lower-on.guarded; under = down.0; parent = down.1 }

    status-was : words p.config (p.at lower-on.guarded.guarded) upper.slot STATUS_AT ≡ lower.status
    status-was = node-at p.config (p.at lower-on.guarded.guarded).value upper.slot STATUS_AT (omega arith) ∙ (ap (p.at lower-on.guarded.guarded).value (sym guard-is) ∙ lower-on.guarded.status)

    lone-root : IsLone path → HasLoneRoot upper lower p
    lone-root h = record { under = is.first upper first; guard = upper-on.guarded; node = link-in; slot = lower-on.slot; one = h.one lower second }

    not-one : ¬ IsLone path → WasNotLone upper.slot p
    not-one none = record {
      read = upper-on.guarded.read;
      read_since = omega (arith, upper-on.guarded.since, upper-on.guarded.order);
      read_now = upper-on.guarded.now;
      root = led;
      moment = lower-on.guarded.guarded;
      since = lower-on.guarded.since;
      now = omega (arith, lower-on.guarded.order, lower-on.guarded.now);
      reached = subst (λ k. (p.at lower-on.guarded.guarded).reached k ≡ true) down.1 down.0.reached;
      other = inr (λ one. none (record { deep = deep; one = λ l e. subst (λ (k : Link). HasOneChild k.status) (one-link lower l (sym second ∙ e)) (subst HasOneChild status-was one) }));
    }

  leaf-root : path.depth < 2 → WasNotLone upper.slot p
  leaf-root flat =
      let l : EndsAtLeaf p upper = is.leaf 0 upper (omega (arith, flat, is.some)) first in record {
        read = upper-on.guarded.read;
        read_since = omega (arith, upper-on.guarded.since, upper-on.guarded.order);
        read_now = upper-on.guarded.now;
        root = led;
        moment = l.was;
        since = l.since;
        now = l.now;
        reached = l.reached;
        other = inl l.leaf;
      }

  pub begins : (lone : Bool) → (IsTrue lone ↔ IsLone path) → lower_begins lone upper lower p
  begins true h = let l : IsLone path = h.0 refl in lone-root l.deep l
  begins false h = elim (cases_lt path.depth 2) [ inl flat ↦ leaf-root flat | inr deep ↦ not-one deep (λ l. true≢false (sym (h.1 l))) ]

-- what an end tells of the path
pub is-lone : (path : Path) (lone : Bool) → (IsTrue lone ↔ IsLone path) → lone ≡ true → IsLone path
is-lone path lone h e = h.0 e

pub is-not-lone : (path : Path) (lone : Bool) → (IsTrue lone ↔ IsLone path) → lone ≡ false → ¬ IsLone path
is-not-lone path lone h e l = true≢false (sym (h.1 l) ∙ e)

pub same-link : (a b : Link) → Some a ≡ Some b → a ≡ b
same-link a b e = one-link a b e
