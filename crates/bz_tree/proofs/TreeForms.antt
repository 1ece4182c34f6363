-- The laws of trees: forms, visits, leaves, content.
use Rattle.std.proofs.Common.{◌≡◌, ℕ, Bool, true, false, List, [], ◌∷◌, refl, sym, subst, ◌∙◌}
use Rattle.std.specs.Prelude.{Some, None}
use Rattle.bz_tree.specs.View.{View}
use Rattle.bz_tree.specs.Form.{Fits, Holds}
use Rattle.bz_tree.specs.Descent.{leaf_of, content}
use Rattle.bz_tree.specs.Walk.{Visit, walk, comes_to, visit_to, form, ComesOnce, IsTree}
use Rattle.bz_tree.specs.TreeLaws.{FormsFitTrees, TreesHaveForms, SlotsComeOnce, LeavesTileTheKeys, Says, ContentIsTheUnion, MapIsTheContent, WalksByStack}
use Rattle.bz_tree.proofs.Descents.{leaf-found, leaf-unique}
use Rattle.bz_tree.proofs.CleanWalks.{Apart, At, has-at, clean}
use Rattle.bz_tree.proofs.WalkForms.{fits-walk}
use Rattle.bz_tree.proofs.WalkBack.{walk-fits}
use Rattle.bz_tree.proofs.SameForms.{form-same}
use Rattle.bz_tree.proofs.Contents.{content-union}
use Rattle.bz_tree.proofs.Stacks.{pending-leaf, pending-inner}
use Rattle.bz_tree.proofs.Maps.{get-map}

pub fits : (v : View) → IsTree v → Fits v (form v)
fits v t = fits-walk v t.one t.tall t.none

pub forms-fit : FormsFitTrees
forms-fit v f g = (walk-fits v f g, form-same v f g)

pub trees-have-forms : TreesHaveForms
trees-have-forms = fits-walk

once : (us : List Visit) → Apart us → ComesOnce us
once [] a = tt
once (u ∷ us) a = (go (comes_to us u.slot) refl, once us a.1)
  where
    go : (b : Bool) → comes_to us u.slot ≡ b → b ≡ false
    go true e = let at : At us u.slot = has-at us u.slot e in absurd (a.0 (visit_to us u.slot) at.there at.slot)
    go false e = refl

pub slots-once : SlotsComeOnce
slots-once v none = once (walk v) (clean v [] (walk v) none).apart

pub leaves-tile : LeavesTileTheKeys
leaves-tile v t key k =
    (leaf-unique v (form v) key k t.honest (fits v t), λ e. subst (λ x. Holds (form v) key x) e (leaf-found v (form v) key t.honest (fits v t)))

pub content-is-union : ContentIsTheUnion
content-is-union v t key payload = (λ e. (leaf_of v key, from e), λ s. to s.0 s.1)
  where
    l : Holds (form v) key (leaf_of v key)
    l = leaf-found v (form v) key t.honest (fits v t)

    from : content v key ≡ Some payload → Says v (leaf_of v key) key payload
    from e = record { inside = l.inside; leaf = l.leaf; found = e }

    some_none : (d : List ℕ) → Some d ≡ None → ⊥
    some_none d q = absurd (cc)

    to : (k : ℕ) → Says v k key payload → content v key ≡ Some payload
    to k s = content-union v (form v) k key t.honest (fits v t) s.inside s.leaf (λ q. some_none payload (sym s.found ∙ q)) ∙ s.found

pub map-is-content : MapIsTheContent
map-is-content v pairs key t same = get-map v pairs key t.honest t.one t.tall t.none same

pub walks-by-stack : WalksByStack
walks-by-stack = record { leaf = pending-leaf; inner = pending-inner }
