-- What a page shows of an image and of a map.
use Rattle.std.specs.Prelude.{◌≡◌, ℕ, Bool, true, false, List, filter, slice_get, Option, Some, None, IsSomeAnd, bytes_eq}
use Rattle.bz_layout.specs.declared.config.Config.{Config}
use Rattle.bz_call.specs.Map.{Map}
use Rattle.bz_call.specs.declared.calls.Call.{Call}
use Rattle.bz_call.specs.declared.calls.Call.TheVariants as kind
use Rattle.bz_call.specs.declared.replies.Reply.{Reply}
use Rattle.bz_call.specs.declared.replies.Reply.TheVariants.{Page}
use Rattle.bz_content.specs.Content.{leaf_end_in}
use Rattle.bz_mark.specs.declared.marks.Mark.{Mark}
use Rattle.bz_mark.specs.declared.marks.Mark.TheVariants.{End}
use Rattle.bz_sound.specs.Calls.{Open}
use Rattle.bz_sound.specs.Memory.Replies.{is_within, pairs_within}
use Rattle.bz_sound.specs.Replies.{Pages}

-- the pairs of a list whose keys lie in a page's range
abbrev pub kept_within : List ℕ → Option (List ℕ) → List (List ℕ × List ℕ) → List (List ℕ × List ℕ)
kept_within from next pairs = filter (λ pair. is_within from next pair.0) pairs

-- the key from which a call asks for a page, if it does
abbrev pub page_key : Call → Option (List ℕ)
page_key (kind.Page from) = Some from
page_key call = None

-- two ends of a leaf are one
abbrev pub same_end : Option (List ℕ) → Option (List ℕ) → Bool
same_end None None = true
same_end None (Some key) = false
same_end (Some key) None = false
same_end (Some key) (Some other) = bytes_eq key other

-- the end is that of the key's leaf, and the pairs are all that the map has from the key on up to there
pub record ShowsPage (c : Config) (raw : ℕ → ℕ) (map : Map) (from : List ℕ) (next : Option (List ℕ)) (shown : List (List ℕ × List ℕ)) : Type 0 where
  pub leaf_end : next ≡ leaf_end_in c raw from
  pub pairs : shown ≡ pairs_within map from next

-- a call asks for a page, and the page with this number shows that
pub record ShowsNumber (c : Config) (raw : ℕ → ℕ) (map : Map) (pages : Pages) (page : ℕ) (next : Option (List ℕ)) (call : Call) : Type 0 where
  pub from : List ℕ
  pub asked : call ≡ kind.Page from
  pub leaf_end : next ≡ leaf_end_in c raw from
  pub pairs : slice_get pages page ≡ Some (pairs_within map from next)

-- a reply names a page that shows what an open call asks for, if there is one
abbrev pub ShowsReply : Config → (ℕ → ℕ) → Map → Pages → Option Open → Reply → Type 0
ShowsReply c raw map pages opened (Page page next) = IsSomeAnd opened (λ call. ShowsNumber c raw map pages page next call.call)
ShowsReply c raw map pages opened reply = ⊥

-- a mark is an End with such a reply. The workers' open calls are these
abbrev pub ShowsMark : Config → (ℕ → ℕ) → Map → Pages → (ℕ → Option Open) → Mark → Type 0
ShowsMark c raw map pages calls (End w n reply at) = ShowsReply c raw map pages (calls w) reply
ShowsMark c raw map pages calls mark = ⊥
