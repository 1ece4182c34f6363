-- An End with a page: its reply is right where it is as far as the map and counts tell, and the page shows what was asked for.
use Rattle.std.specs.Prelude.{◌≡◌, ◌≤◌, ◌↔◌, ℕ, Bool, true, List, length, slice_get, Option, Some, None, option_map, IsSomeAnd}
use Rattle.std.proofs.Common.{sym, ap, ◌∙◌, subst}
use Rattle.std.proofs.lemmas.Option.{slice_get_past}
use Rattle.std.specs.FinMap.{get}
use Rattle.bz_layout.specs.declared.config.Config.{Config}
use Rattle.bz_call.specs.Map.{Map, apply, apply_at, key_of}
use Rattle.bz_call.specs.Pages.{is_page}
use Rattle.bz_call.specs.declared.calls.Call.{Call}
use Rattle.bz_call.specs.declared.calls.Call.TheVariants as kind
use Rattle.bz_call.specs.declared.replies.Reply.{Reply}
use Rattle.bz_call.specs.declared.replies.Reply.TheVariants.{Page, Full}
use Rattle.bz_call.specs.declared.replies.Spent.{Spent}
use Rattle.bz_call.specs.declared.replies.Spent.TheVariants.{Nodes, Swaps, Height}
use Rattle.bz_mark.specs.declared.marks.Mark.{Mark}
use Rattle.bz_mark.specs.declared.marks.Mark.TheVariants.{End}
use Rattle.bz_sound.specs.Calls.{Open, open_call, map_at}
use Rattle.bz_sound.specs.Memory.Moments.{image_at, map_at_start}
use Rattle.bz_sound.specs.Memory.Replies.{Answer, IsAnswerBy, IsRightReplyBy, pairs_within}
use Rattle.bz_sound.specs.Power.Replies.{HasRightReply}
use Rattle.bz_sound.specs.Power.Spent.{IsSpent}
use Rattle.bz_sound.specs.Replies.{Pages}
use Rattle.bz_check.specs.Knowing.{open_of}
use Rattle.bz_check.specs.Replies.{IsAnswerOf, IsPlainReply, HasPlainReply}
use Rattle.bz_check.specs.Tables.{call_in}
use Rattle.bz_check.specs.declared.table.OpenCall.{OpenCall}
use Rattle.bz_check.proofs.Following.{none_some, some_same}
use Rattle.bz_verdict.specs.Laws.{LeavesNoCause}
use Rattle.bz_verdict.specs.Pages.{page_key, ShowsPage, ShowsNumber, ShowsReply}
use Rattle.bz_verdict.specs.Rules.{IsCounted, HasSeenReply}

-- a call that asks for a page, by its key
key_page : (call : Call) (from : List ℕ) → page_key call ≡ Some from → call ≡ kind.Page from
key_page (kind.Page key) from e = ap (λ (k : List ℕ). kind.Page k) (some_same key from e)
key_page (kind.Insert key payload) from e = absurd (none_some from e)
key_page (kind.Delete key) from e = absurd (none_some from e)
key_page (kind.Update key payload) from e = absurd (none_some from e)
key_page (kind.Upsert key payload) from e = absurd (none_some from e)
key_page (kind.Get key) from e = absurd (none_some from e)

abbrev pub IsNumberShown : Config → (ℕ → ℕ) → Map → Pages → ℕ → Option (List ℕ) → Option Open → Type 0
IsNumberShown c raw at pages page next opened = IsSomeAnd opened (λ x. ShowsNumber c raw at pages page next x.call)

pub no_call : (c : Config) (raw : ℕ → ℕ) (at : Map) (pages : Pages) (page : ℕ) (next : Option (List ℕ)) (o : Option OpenCall) (opened : Option Open) → option_map open_of o ≡ opened → call_in o ≡ None → IsNumberShown c raw at pages page next opened → ⊥
no_call c raw at pages page next None opened is none h = subst (λ (x : Option Open). IsNumberShown c raw at pages page next x) (sym is) h
no_call c raw at pages page next (Some call) opened is none h = none_some call.call (sym none)

pub not_paged : (c : Config) (raw : ℕ → ℕ) (at : Map) (pages : Pages) (page : ℕ) (next : Option (List ℕ)) (o : Option OpenCall) (opened : Option Open) (call : Call) → option_map open_of o ≡ opened → call_in o ≡ Some call → page_key call ≡ None
    → IsNumberShown c raw at pages page next opened → ⊥
not_paged c raw at pages page next None opened call is some none h = none_some call some
not_paged c raw at pages page next (Some asking) opened call is some none h =
    let s : ShowsNumber c raw at pages page next asking.call = subst (λ (x : Option Open). IsNumberShown c raw at pages page next x) (sym is) h in
    none_some s.from (sym none ∙ ap page_key (sym (some_same asking.call call some)) ∙ ap page_key s.asked)

no_such_page : (pages : Pages) (page : ℕ) (shown : List (List ℕ × List ℕ)) → length pages ≤ page → slice_get pages page ≡ Some shown → ⊥
no_such_page pages page shown le is = none_some shown (sym (slice_get_past pages page le) ∙ is)

pub no_number : (c : Config) (raw : ℕ → ℕ) (at : Map) (pages : Pages) (page : ℕ) (next : Option (List ℕ)) (opened : Option Open) → length pages ≤ page → IsNumberShown c raw at pages page next opened → ⊥
no_number c raw at pages page next None le h = h
no_number c raw at pages page next (Some opened) le h = no_such_page pages page (pairs_within at h.from next) le h.pairs

pub number_shown : (c : Config) (raw : ℕ → ℕ) (at : Map) (pages : Pages) (page : ℕ) (from : List ℕ) (next : Option (List ℕ)) (shown : List (List ℕ × List ℕ)) (o : Option OpenCall) (opened : Option Open) (call : Call) (test : Bool)
    → option_map open_of o ≡ opened → call_in o ≡ Some call → page_key call ≡ Some from → slice_get pages page ≡ Some shown → (test ≡ true ↔ ShowsPage c raw at from next shown) → test ≡ true ↔ IsNumberShown c raw at pages page next opened
number_shown c raw at pages page from next shown None opened call test is some key there decides = absurd (none_some call some)
number_shown c raw at pages page from next shown (Some held) opened call test is some key there decides =
    let asked : held.call ≡ kind.Page from = some_same held.call call some ∙ key_page call from key in (
      λ h.
          let s : ShowsPage c raw at from next shown = decides.0 h in
          subst (λ (x : Option Open). IsNumberShown c raw at pages page next x) is (record { from = from; asked = asked; leaf_end = s.leaf_end; pairs = there ∙ ap (λ (ps : List (List ℕ × List ℕ)). Some ps) s.pairs }),
      λ h.
          let s : ShowsNumber c raw at pages page next held.call = subst (λ (x : Option Open). IsNumberShown c raw at pages page next x) (sym is) h in
          let same : s.from ≡ from = some_same s.from from (ap page_key (sym s.asked ∙ asked)) in
          decides.1 (subst (λ (key : List ℕ). ShowsPage c raw at key next shown) same (record { leaf_end = s.leaf_end; pairs = some_same shown (pairs_within at s.from next) (sym there ∙ s.pairs) })),
    )

-- an ordered map answers no call with a page
no_page_so : (found : Option (List ℕ)) (map : Map) (asked : Call) (page : ℕ) (next : Option (List ℕ)) → (apply_at found map asked).reply ≡ Some (Page page next) → ⊥
no_page_so None map (kind.Insert key payload) page next e = absurd (cc)
no_page_so (Some had) map (kind.Insert key payload) page next e = absurd (cc)
no_page_so None map (kind.Delete key) page next e = absurd (cc)
no_page_so (Some had) map (kind.Delete key) page next e = absurd (cc)
no_page_so None map (kind.Update key payload) page next e = absurd (cc)
no_page_so (Some had) map (kind.Update key payload) page next e = absurd (cc)
no_page_so None map (kind.Upsert key payload) page next e = absurd (cc)
no_page_so (Some had) map (kind.Upsert key payload) page next e = absurd (cc)
no_page_so None map (kind.Get key) page next e = absurd (cc)
no_page_so (Some had) map (kind.Get key) page next e = absurd (cc)
no_page_so None map (kind.Page key) page next e = absurd (cc)
no_page_so (Some had) map (kind.Page key) page next e = absurd (cc)

pub no_page_answer : (map : Map) (asked : Call) (page : ℕ) (next : Option (List ℕ)) → (apply map asked).reply ≡ Some (Page page next) → ⊥
no_page_answer map asked page next e = no_page_so (get map (key_of asked)) map asked page next e

-- what an End's page shows at the moment that the End names
abbrev pub shown_at : Config → List ℕ → Pages → List Mark → ℕ → Reply → Option Open → Type 0
shown_at c start pages past at reply opened = ShowsReply c (image_at start at past) (map_at (map_at_start c start) at past) pages opened reply

-- nothing is asked of an End without a page
abbrev pub ShowsEnd : Config → List ℕ → Pages → List Mark → ℕ → Option Open → Reply → Type 0
ShowsEnd c start pages past at opened (Page page next) = shown_at c start pages past at (Page page next) opened
ShowsEnd c start pages past at opened reply = Unit {0}

abbrev pub ShowsIfEnd : Config → List ℕ → Pages → List Mark → Mark → Type 0
ShowsIfEnd c start pages past (End w n reply at) = ShowsEnd c start pages past at (open_call w past) reply
ShowsIfEnd c start pages past mark = Unit {0}

abbrev answered : ℕ → ℕ → Reply → Open → Answer
answered w at reply opened = record { worker = w; opened = opened; reply = reply; at = at }

-- a right reply is one as far as the map and counts tell
abbrev IsSeenAnswer : Config → List ℕ → Pages → List Mark → Answer → Option ℕ → Reply → Type 0
IsSeenAnswer c start pages past answer effect reply = IsAnswerBy (IsCounted c past answer.worker answer.opened) c start pages past answer effect reply

answer_plain : (c : Config) (start : List ℕ) (pages : Pages) (past : List Mark) (answer : Answer) (effect : Option ℕ) (reply : Reply) → IsSeenAnswer c start pages past answer effect reply → IsAnswerOf c (map_at_start c start) past answer effect reply
answer_plain c start pages past answer (Some effect) reply h = record { moment = h.moment; answers = h.answers }
answer_plain c start pages past answer None (Page page next) h = record { asked = ap is_page h.asked; loaded = h.loaded; number = h.number }
answer_plain c start pages past answer None (Full spent) h = record { now = h.now; writes = h.writes; cause = h.cause }
answer_plain c start pages past answer None reply h = record { loaded = h.loaded; answers = h.answers }

answer_shows : (c : Config) (start : List ℕ) (pages : Pages) (past : List Mark) (w at : ℕ) (reply : Reply) (opened : Open) (effect : Option ℕ) → IsSeenAnswer c start pages past (answered w at reply opened) effect reply → ShowsEnd c start pages past at (Some opened) reply
answer_shows c start pages past w at (Page page next) opened (Some effect) h = absurd (no_page_answer (map_at (map_at_start c start) at past) opened.call page next h.answers)
answer_shows c start pages past w at (Page page next) opened None h = record { from = h.from; asked = h.asked; leaf_end = h.leaf_end; pairs = h.pairs }
answer_shows c start pages past w at reply opened effect h = tt

-- and with what its page shows it is a right one
answer_seen : (c : Config) (start : List ℕ) (pages : Pages) (past : List Mark) (w at : ℕ) (reply : Reply) (opened : Open) (effect : Option ℕ) → IsAnswerOf c (map_at_start c start) past (answered w at reply opened) effect reply
    → ShowsEnd c start pages past at (Some opened) reply → IsSeenAnswer c start pages past (answered w at reply opened) effect reply
answer_seen c start pages past w at reply opened (Some effect) h s = record { moment = h.moment; answers = h.answers }
answer_seen c start pages past w at (Page page next) opened None h s = record { from = s.from; asked = s.asked; loaded = h.loaded; leaf_end = s.leaf_end; pairs = s.pairs; number = h.number }
answer_seen c start pages past w at (Full spent) opened None h s = record { now = h.now; writes = h.writes; cause = h.cause }
answer_seen c start pages past w at reply opened None h s = record { loaded = h.loaded; answers = h.answers }

-- the same of the reply to the open call of an End's worker
abbrev IsSeenEnd : Config → List ℕ → Pages → List Mark → ℕ → ℕ → Reply → Open → Type 0
IsSeenEnd c start pages past w at reply opened = IsRightReplyBy (IsCounted c past w opened) c start pages past (answered w at reply opened)

abbrev IsPlainEnd : Config → List ℕ → List Mark → ℕ → ℕ → Reply → Open → Type 0
IsPlainEnd c start past w at reply opened = IsPlainReply c (map_at_start c start) past (answered w at reply opened)

end_plain : (c : Config) (start : List ℕ) (pages : Pages) (past : List Mark) (w at : ℕ) (reply : Reply) (o : Option Open) → IsSomeAnd o (IsSeenEnd c start pages past w at reply) → IsSomeAnd o (IsPlainEnd c start past w at reply)
end_plain c start pages past w at reply None h = h
end_plain c start pages past w at reply (Some opened) h =
    record { after_begin = h.after_begin; before_end = h.before_end; right = answer_plain c start pages past (answered w at reply opened) opened.effect reply h.right }

end_shows : (c : Config) (start : List ℕ) (pages : Pages) (past : List Mark) (w at : ℕ) (reply : Reply) (o : Option Open) → IsSomeAnd o (IsSeenEnd c start pages past w at reply) → ShowsEnd c start pages past at o reply
end_shows c start pages past w at reply None h = absurd h
end_shows c start pages past w at reply (Some opened) h = answer_shows c start pages past w at reply opened opened.effect h.right

end_seen : (c : Config) (start : List ℕ) (pages : Pages) (past : List Mark) (w at : ℕ) (reply : Reply) (o : Option Open) → IsSomeAnd o (IsPlainEnd c start past w at reply) → ShowsEnd c start pages past at o reply
    → IsSomeAnd o (IsSeenEnd c start pages past w at reply)
end_seen c start pages past w at reply None h s = h
end_seen c start pages past w at reply (Some opened) h s =
    record { after_begin = h.after_begin; before_end = h.before_end; right = answer_seen c start pages past w at reply opened opened.effect h.right s }

pub seen_plain : (c : Config) (start : List ℕ) (pages : Pages) (past : List Mark) (mark : Mark) → HasSeenReply c start pages past mark → HasPlainReply c (map_at_start c start) past mark
seen_plain c start pages past (End w n reply at) h = end_plain c start pages past w at reply (open_call w past) h
seen_plain c start pages past mark h = tt

pub seen_shows : (c : Config) (start : List ℕ) (pages : Pages) (past : List Mark) (mark : Mark) → HasSeenReply c start pages past mark → ShowsIfEnd c start pages past mark
seen_shows c start pages past (End w n reply at) h = end_shows c start pages past w at reply (open_call w past) h
seen_shows c start pages past mark h = tt

pub plain_seen : (c : Config) (start : List ℕ) (pages : Pages) (past : List Mark) (mark : Mark) → HasPlainReply c (map_at_start c start) past mark → ShowsIfEnd c start pages past mark → HasSeenReply c start pages past mark
plain_seen c start pages past (End w n reply at) h s = end_seen c start pages past w at reply (open_call w past) h s
plain_seen c start pages past mark h s = tt

-- a reply with the right cause is right but for the cause
spent_counted : (c : Config) (start : List ℕ) (past : List Mark) (w : ℕ) (opened : Open) (spent : Spent) → IsSpent c start past w opened spent → IsCounted c past w opened spent
spent_counted c start past w opened Nodes h = tt
spent_counted c start past w opened Swaps h = h
spent_counted c start past w opened Height h = tt

abbrev IsSpentAnswer : Config → List ℕ → Pages → List Mark → Answer → Option ℕ → Reply → Type 0
IsSpentAnswer c start pages past answer effect reply = IsAnswerBy (IsSpent c start past answer.worker answer.opened) c start pages past answer effect reply

spent_answer : (c : Config) (start : List ℕ) (pages : Pages) (past : List Mark) (answer : Answer) (effect : Option ℕ) (reply : Reply) → IsSpentAnswer c start pages past answer effect reply → IsSeenAnswer c start pages past answer effect reply
spent_answer c start pages past answer (Some effect) reply h = h
spent_answer c start pages past answer None (Page page next) h = h
spent_answer c start pages past answer None (Full spent) h = record { now = h.now; writes = h.writes; cause = spent_counted c start past answer.worker answer.opened spent h.cause }
spent_answer c start pages past answer None reply h = h

abbrev IsSpentEnd : Config → List ℕ → Pages → List Mark → ℕ → ℕ → Reply → Open → Type 0
IsSpentEnd c start pages past w at reply opened = IsRightReplyBy (IsSpent c start past w opened) c start pages past (answered w at reply opened)

spent_end : (c : Config) (start : List ℕ) (pages : Pages) (past : List Mark) (w at : ℕ) (reply : Reply) (o : Option Open) → IsSomeAnd o (IsSpentEnd c start pages past w at reply) → IsSomeAnd o (IsSeenEnd c start pages past w at reply)
spent_end c start pages past w at reply None h = h
spent_end c start pages past w at reply (Some opened) h =
    record { after_begin = h.after_begin; before_end = h.before_end; right = spent_answer c start pages past (answered w at reply opened) opened.effect reply h.right }

pub right_seen : (c : Config) (start : List ℕ) (pages : Pages) (past : List Mark) (mark : Mark) → HasRightReply c start pages past mark → HasSeenReply c start pages past mark
right_seen c start pages past (End w n reply at) h = spent_end c start pages past w at reply (open_call w past) h
right_seen c start pages past mark h = tt

-- and a reply that names no cause that an image tells is right where it is right but for that
abbrev NamesNoCause : Reply → Type 0
NamesNoCause (Full Nodes) = ⊥
NamesNoCause (Full Height) = ⊥
NamesNoCause reply = Unit {0}

counted_answer : (c : Config) (start : List ℕ) (pages : Pages) (past : List Mark) (answer : Answer) (effect : Option ℕ) (reply : Reply) → NamesNoCause reply → IsSeenAnswer c start pages past answer effect reply
    → IsSpentAnswer c start pages past answer effect reply
counted_answer c start pages past answer (Some effect) reply counted h = h
counted_answer c start pages past answer None (Full Nodes) counted h = absurd counted
counted_answer c start pages past answer None (Full Height) counted h = absurd counted
counted_answer c start pages past answer None (Full Swaps) counted h = record { now = h.now; writes = h.writes; cause = h.cause }
counted_answer c start pages past answer None reply counted h = h

counted_end : (c : Config) (start : List ℕ) (pages : Pages) (past : List Mark) (w at : ℕ) (reply : Reply) (o : Option Open) → NamesNoCause reply → IsSomeAnd o (IsSeenEnd c start pages past w at reply) → IsSomeAnd o (IsSpentEnd c start pages past w at reply)
counted_end c start pages past w at reply None counted h = h
counted_end c start pages past w at reply (Some opened) counted h =
    record { after_begin = h.after_begin; before_end = h.before_end; right = counted_answer c start pages past (answered w at reply opened) opened.effect reply counted h.right }

end_counted : (w n at : ℕ) (reply : Reply) → LeavesNoCause (End w n reply at) → NamesNoCause reply
end_counted w n at (Full Nodes) counted = counted
end_counted w n at (Full Height) counted = counted
end_counted w n at reply counted = tt

pub seen_right : (c : Config) (start : List ℕ) (pages : Pages) (past : List Mark) (mark : Mark) → LeavesNoCause mark → HasSeenReply c start pages past mark → HasRightReply c start pages past mark
seen_right c start pages past (End w n reply at) counted h = counted_end c start pages past w at reply (open_call w past) (end_counted w n at reply counted) h
seen_right c start pages past mark counted h = tt
