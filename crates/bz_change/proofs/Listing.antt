-- What the change of a call makes of the list.
use Rattle.std.proofs.Common.{◌≡◌, ◌≢◌, ◌<◌, ℕ, ◌+◌, ◌-◌, List, [], ◌∷◌, ◌++◌, length, inl, inr, refl, sym, ap, ◌∙◌, subst, arith}
use Rattle.std.proofs.lemmas.Bool.{lt-ltb, le-ltb, cases_eq}
use Rattle.bz_ring.specs.declared.calls.QCall.{QCall}
use Rattle.bz_ring.specs.declared.calls.QCall.TheVariants as call
use Rattle.bz_ring.specs.declared.calls.QReply.TheVariants as reply
use Rattle.bz_ring.specs.declared.ring.Ring.{Ring}
use Rattle.bz_ring.specs.declared.ring.TheConstants.{HEAD_AT, TAIL_AT}
use Rattle.bz_ring.specs.Content.{cell_of}
use Rattle.bz_ring.specs.ContentLaws.{HoldsItems, Puts, Takes}
use Rattle.bz_ring.specs.Lists.{Answer, apply}
use Rattle.bz_ring.proofs.Proved.{puts_append, takes_drop, cells_tell_the_list}
use Rattle.bz_change.specs.Changes as change
use Rattle.bz_change.specs.Laws.{ListsFollow}
use Rattle.bz_change.specs.Values.{MakesChange}

-- a put into a list with room
put-room : (r : Ring) (items : List ℕ) (item : ℕ) → length items < r.capacity → apply r.capacity items (call.Put item) ≡ record { reply = reply.Put; items = items ++ item ∷ [] }
put-room r items item room = rw (lt-ltb (length items) r.capacity room) refl

put-full : (r : Ring) (items : List ℕ) (item : ℕ) → length items ≡ r.capacity → (apply r.capacity items (call.Put item)).reply ≡ reply.Full
put-full r items item full = rw (le-ltb (length items) r.capacity (omega arith)) refl

-- a put's change of a ring with room
put-changed : (r : Ring) (old new : ℕ → ℕ) (items : List ℕ) (item counter word : ℕ) → 0 < r.capacity → HoldsItems r old items → old TAIL_AT ≡ counter → old (cell_of r counter) ≡ word → word ≡ 0 → Puts r item old new
    → HoldsItems r new (apply r.capacity items (call.Put item)).items × ((apply r.capacity items (call.Put item)).reply ≡ reply.Put)
put-changed r old new items item counter word some h at_counter at_cell empty puts =
    let none : old (cell_of r (old TAIL_AT)) ≡ 0 = ap (λ (k : ℕ). old (cell_of r k)) at_counter ∙ at_cell ∙ empty in
    let room = (cells_tell_the_list r old items some h).room none in
    let is = put-room r items item room in
    (subst (λ (answer : Answer). HoldsItems r new answer.items) (sym is) (puts_append r item old new items room h puts), ap (λ (answer : Answer). answer.reply) is)

take-changed : (r : Ring) (old new : ℕ → ℕ) (items : List ℕ) (counter word : ℕ) → 0 < r.capacity → HoldsItems r old items → old HEAD_AT ≡ counter → old (cell_of r counter) ≡ word → word ≢ 0 → Takes r old new
    → HoldsItems r new (apply r.capacity items call.Take).items × ((apply r.capacity items call.Take).reply ≡ reply.Taken (word - 1))
take-changed r old new [] counter word some h at_counter at_cell full takes =
    let here : old (cell_of r (old HEAD_AT)) ≡ word - 1 + 1 = ap (λ (k : ℕ). old (cell_of r k)) at_counter ∙ at_cell ∙ omega arith in
    let first = (cells_tell_the_list r old [] some h).first (word - 1) here in
    let none : [] ≡ (word - 1) ∷ first.0 = first.1 in
    absurd (cc)
take-changed r old new (item ∷ items) counter word some h at_counter at_cell full takes =
    let here : old (cell_of r (old HEAD_AT)) ≡ word - 1 + 1 = ap (λ (k : ℕ). old (cell_of r k)) at_counter ∙ at_cell ∙ omega arith in
    let first = (cells_tell_the_list r old (item ∷ items) some h).first (word - 1) here in
    let same : item ∷ items ≡ (word - 1) ∷ first.0 = first.1 in
    let is : item ≡ word - 1 = cc in
    (takes_drop r item old new items h takes, ap reply.Taken is)

put-unchanged : (r : Ring) (value : ℕ → ℕ) (items : List ℕ) (item word : ℕ) → 0 < r.capacity → HoldsItems r value items → value (cell_of r (value TAIL_AT)) ≡ word → (word ≡ 0 → ⊥)
    → (apply r.capacity items (call.Put item)).reply ≡ reply.Full
put-unchanged r value items item word some h at_cell full = put-full r items item ((cells_tell_the_list r value items some h).full (λ none. full (sym at_cell ∙ none)))

take-unchanged : (r : Ring) (value : ℕ → ℕ) (items : List ℕ) (word : ℕ) → 0 < r.capacity → HoldsItems r value items → value (cell_of r (value HEAD_AT)) ≡ word → ((word ≢ 0) → ⊥)
    → (apply r.capacity items call.Take).reply ≡ reply.Empty
take-unchanged r value items word some h at_cell full = elim (cases_eq word 0) [
  | inl none ↦ ap (λ (all : List ℕ). (apply r.capacity all call.Take).reply) ((cells_tell_the_list r value items some h).empty (at_cell ∙ none))
  | inr other ↦ absurd (full other)
]

changed-by : (r : Ring) (old new : ℕ → ℕ) (items : List ℕ) (called : QCall) (counter word : ℕ) → 0 < r.capacity → HoldsItems r old items → old (change.counter_of called) ≡ counter → old (cell_of r counter) ≡ word
    → change.Suits called word → MakesChange r called old new → HoldsItems r new (apply r.capacity items called).items × ((apply r.capacity items called).reply ≡ change.change_reply called word)
changed-by r old new items (call.Put item) counter word some h at_counter at_cell suits makes = put-changed r old new items item counter word some h at_counter at_cell suits makes
changed-by r old new items call.Take counter word some h at_counter at_cell suits makes = take-changed r old new items counter word some h at_counter at_cell suits makes

unchanged-by : (r : Ring) (value : ℕ → ℕ) (items : List ℕ) (called : QCall) (word : ℕ) → 0 < r.capacity → HoldsItems r value items → value (cell_of r (value (change.counter_of called))) ≡ word → (change.Suits called word → ⊥)
    → (apply r.capacity items called).reply ≡ change.none_reply called
unchanged-by r value items (call.Put item) word some h at_cell unsuited = put-unchanged r value items item word some h at_cell unsuited
unchanged-by r value items call.Take word some h at_cell unsuited = take-unchanged r value items word some h at_cell unsuited

pub lists_follow : ListsFollow
lists_follow = record { changed = changed-by; unchanged = unchanged-by }
