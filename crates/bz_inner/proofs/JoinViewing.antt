-- What a path shows of the root and of an inner node under it.
use Rattle.std.proofs.Common.{◌≡◌, ℕ, ◌+◌, ◌<◌, Bool, true, false, List, slice_index, arith, refl, sym, subst, ◌∙◌, inl, inr, Some}
use Rattle.std.specs.Prelude.{◌↔◌, IsTrue, slice_get, length}
use Rattle.std.proofs.lemmas.Bool.{cases_lt, true≢false}
use Rattle.bz_layout.specs.Addresses.{node_address}
use Rattle.bz_layout.specs.declared.sizes.TheConstants.{NODE_WORDS, STATUS_AT}
use Rattle.bz_layout.proofs.Laws.{slots_apart}
use Rattle.bz_task.specs.Outcomes.{IsPath, IsLink}
use Rattle.bz_task.specs.Scene.{Past}
use Rattle.bz_task.specs.declared.path.Link.{Link}
use Rattle.bz_task.specs.declared.path.Path.{Path}
use Rattle.bz_below.specs.Parents.{WereRead}
use Rattle.bz_inner.specs.JoinFacts.{joining_begins}
use Rattle.bz_inner.specs.Joinings.{Joining, HasLinks, WasNotSmall}
use Rattle.bz_inner.specs.LowerFacts.{IsLinkIn}
use Rattle.bz_inner.specs.Small.{IsSmall, IsSmallStatus}

pub one-link : (a b : Link) → Some a ≡ Some b → a ≡ b
one-link a b e = cc

-- a link below another one stands in the node to which that leads
link-in : (key : List ℕ) (path : Path) (p : Past) (is : IsPath key path p) (i : ℕ) (link next : Link) → i + 1 < path.depth → slice_get path.links i ≡ Some link → slice_get path.links (i + 1) ≡ Some next → IsLinkIn link.slot next p
link-in key path p is i link next deep first second =
    let on : IsLink key p next = is.links (i + 1) next deep second in
    let guard : next.guard ≡ node_address p.config link.slot + STATUS_AT = is.below i link next deep first second in
    elim on.guarded.under [
      | inl root ↦ absurd (omega (arith, root.guard, guard))
      | inr u ↦ record { guard = on.guarded; under = u; parent = (slots_apart p.config u.parent link.slot STATUS_AT STATUS_AT (omega arith) (omega arith) (sym u.guard ∙ guard)).0 }
    ]

-- words of which the status alone was read
pub record IsFirst (st : ℕ) (read : List ℕ) : Type 0 where
  pub size : length read ≡ NODE_WORDS
  pub first : slice_index read STATUS_AT ≡ st
  pub blank : (i : ℕ) → 0 < i → slice_index read i ≡ 0

were-first : (k m st : ℕ) (read : List ℕ) (p : Past) → IsFirst st read → WereRead k m st 1 read p
were-first k m st read p f = record { size = f.size; first = f.first; rest = λ i some l. absurd (omega (arith, some, l)); blank = λ i l. f.blank i (omega (arith, l)) }

module _ (key : List ℕ) (path : Path) (p : Past) (is : IsPath key path p) (r : Joining) (first : slice_get path.links 0 ≡ Some r.upper) (second : slice_get path.links 1 ≡ Some r.middle) (third : slice_get path.links 2 ≡ Some r.lower) where
  upper-on : IsLink key p r.upper
  upper-on = is.links 0 r.upper is.some first

  parent-in : 1 < path.depth → IsLinkIn r.upper.slot r.middle p
  parent-in deep = link-in key path p is 0 r.upper r.middle deep first second

  own-in : 2 < path.depth → IsLinkIn r.middle.slot r.lower p
  own-in deep = link-in key path p is 1 r.middle r.lower deep second third

  has-links : IsSmall path → HasLinks r.upper r.middle r.lower p
  has-links small = record {
    under = is.first r.upper first;
    guard = upper-on.guarded;
    parent = parent-in (omega (arith, small.deep));
    own = own-in (omega (arith, small.deep));
    small = small.few r.lower third;
    parent_at = (parent-in (omega (arith, small.deep))).guard.guarded;
    is_parent_at = refl;
    own_at = (own-in (omega (arith, small.deep))).guard.guarded;
    is_own_at = refl;
  }

  not-small : ¬ IsSmall path → WasNotSmall r.upper r.middle r.lower p
  not-small none = record {
    under = is.first r.upper first;
    guard = upper-on.guarded;
    why = elim (cases_lt 1 path.depth) [
      | inr flat ↦ inl (is.leaf 0 r.upper (omega (arith, flat, is.some)) first)
      | inl two ↦ inr (elim (cases_lt 2 path.depth) [
        | inr flat ↦ inl (parent-in two, is.leaf 1 r.middle (omega (arith, flat, two)) second)
        | inl three ↦ inr (parent-in two, (own-in three, λ few. none (record { deep = omega (arith, three); few = λ l e. subst (λ (z : Link). IsSmallStatus z.status) (one-link r.lower l (sym third ∙ e)) few })))
      ])
    ];
  }

  pub begins : (small : Bool) → (IsTrue small ↔ IsSmall path) → IsFirst r.middle.status r.above → IsFirst r.lower.status r.own → joining_begins small r p
  begins true h above own =
      let links : HasLinks r.upper r.middle r.lower p = has-links (h.0 refl) in
      record { links = links; were = were-first r.upper.slot links.parent_at r.middle.status r.above p above; own = were-first r.middle.slot links.own_at r.lower.status r.own p own }
  begins false h above own = not-small (λ l. true≢false (sym (h.1 l)))
