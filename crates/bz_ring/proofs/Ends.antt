-- What the Ends of a sound journal tell.
use Rattle.std.proofs.Common.{◌≡◌, ℕ, Bool, true, false, List, [], ◌∷◌, ◌++◌, length, refl, sym, ap, subst, ◌∙◌, Option, Some, None}
use Rattle.std.specs.Prelude.{if◌then◌else◌, nat_lt}
use Rattle.bz_ring.specs.declared.calls.QCall.{QCall}
use Rattle.bz_ring.specs.declared.calls.QCall.TheVariants as call
use Rattle.bz_ring.specs.declared.calls.QReply.{QReply}
use Rattle.bz_ring.specs.declared.calls.QReply.TheVariants.{Put, Taken, Empty, Full, Spent}
use Rattle.bz_ring.specs.declared.marks.QMark.{QMark}
use Rattle.bz_ring.specs.declared.marks.QMark.TheVariants.{End}
use Rattle.bz_ring.specs.declared.ring.Ring.{Ring}
use Rattle.bz_ring.specs.Calls.{MayEnd, list_at, open_call}
use Rattle.bz_ring.specs.Ends.{EndTells, EndsTell, TellsEnd}
use Rattle.bz_ring.specs.Follows.{MayFollow}
use Rattle.bz_ring.specs.Journal.{EachMark}
use Rattle.bz_ring.specs.Lists.{Answer, apply, IsChange}
use Rattle.bz_ring.specs.Replies.{AreSpent, HasRightReply, HasRightReplyTo, IsRightBy, IsRightReply, IsRightWithout, ListReplies, Told}
use Rattle.bz_ring.specs.Sound.{first_items}

-- no list replies spent
put-spent : (b : Bool) (one other : List ℕ) → (let answer : Answer = if b then record { reply = Put; items = one } else record { reply = Full; items = other } in answer).reply ≡ Spent → ⊥
put-spent true one other is = cc is
put-spent false one other is = cc is

never-spent : (capacity : ℕ) (items : List ℕ) (called : QCall) → (apply capacity items called).reply ≡ Spent → ⊥
never-spent capacity items (call.Put item) is = put-spent (nat_lt (length items) capacity) (items ++ item ∷ []) items is
never-spent capacity [] call.Take is = cc is
never-spent capacity (first ∷ items) call.Take is = cc is

module _ (r : Ring) (first : List ℕ) (past : List QMark) (told : Told) where
  spent-by : (effect : Option ℕ) → told.reply ≡ Spent → IsRightBy r first past told effect → (effect ≡ None) × ((told.at ≡ length past) × AreSpent r past told.worker)
  spent-by None is right = (refl, subst (IsRightWithout r first past told) is right)
  spent-by (Some effect) is right = absurd (never-spent r.capacity (list_at r.capacity first told.at past) told.opened.call (right.1 ∙ is))

  without-lists : (answer : QReply) → (answer ≡ Spent → ⊥) → IsRightWithout r first past told answer → ListReplies r first past told
  without-lists Put other right = absurd right
  without-lists (Taken item) other right = absurd right
  without-lists Empty other right = right.1
  without-lists Full other right = right.1
  without-lists Spent other right = absurd (other refl)

  listed-by : (effect : Option ℕ) → (told.reply ≡ Spent → ⊥) → IsRightBy r first past told effect → ListReplies r first past told
  listed-by None other right = without-lists told.reply other right
  listed-by (Some effect) other right = right.1

  without-changes : (answer : QReply) → IsChange answer → IsRightWithout r first past told answer → ⊥
  without-changes Put change right = right
  without-changes (Taken item) change right = right
  without-changes Empty change right = change
  without-changes Full change right = change
  without-changes Spent change right = change

  changed-by : (effect : Option ℕ) → IsChange told.reply → IsRightBy r first past told effect → effect ≡ Some told.at
  changed-by None change right = absurd (without-changes told.reply change right)
  changed-by (Some effect) change right = ap (λ (at : ℕ). let it : Option ℕ = Some at in it) (sym right.0)

tell : (r : Ring) (first : List ℕ) (past : List QMark) (w n : ℕ) (answer : QReply) (at : ℕ) → MayEnd past w n → HasRightReplyTo r first past w answer at (open_call w past) → EndTells r first past w n answer at
tell r first past w n answer at may right =
    let told : Told = record { worker = w; opened = may.opened; reply = answer; at = at } in
    let is : IsRightReply r first past told = subst (HasRightReplyTo r first past w answer at) may.is_open right in
    record {
      opened = may.opened;
      is_open = may.is_open;
      number = may.number;
      after_begin = is.after_begin;
      before_end = is.before_end;
      spent = λ same. spent-by r first past told may.opened.effect same is.right;
      listed = λ other. listed-by r first past told may.opened.effect other is.right;
      changed = λ change. changed-by r first past told may.opened.effect change is.right;
    }

tells : (r : Ring) (first : List ℕ) (past : List QMark) → EachMark (MayFollow r.capacity first) past → EachMark (HasRightReply r first) past → EachMark (TellsEnd r first) past
tells r first [] once replies = tt
tells r first (End w n answer at ∷ past) once replies = (tell r first past w n answer at once.0 replies.0, tells r first past once.1 replies.1)
tells r first (mark ∷ past) once replies = (tt, tells r first past once.1 replies.1)

pub ends_tell : EndsTell
ends_tell r start past sound = tells r (first_items r start) past sound.once sound.replies
