mod MomentLaws
mod CallLaws
mod ReadLemmas
mod OpenLemmas
mod PartLemmas
mod CountLemmas
