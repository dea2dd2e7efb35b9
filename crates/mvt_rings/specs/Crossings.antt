-- Why two rings are told to cross.
use Rattle.std.specs.Prelude.{◌≡◌, ◌≢◌, true, List, slice_index, Ok, ◌⊎◌}
use Rattle.mvt_base.specs.Rules.{IsOneOf}
use Rattle.mvt_rings.specs.declared.rings.Ring.{Ring}
use Rattle.mvt_rings.specs.declared.placing.Place.TheVariants.{Unclear}
use Rattle.mvt_rings.specs.declared.holding.Holders.{Holders}
use Rattle.mvt_rings.specs.Rings.{may_hold, place}
use Rattle.mvt_rings.specs.declared.holding.Crossing.{Crossing}
use Rattle.mvt_rings.specs.Holding.{holders_of, is_odd_one}

-- of two rings one may hold the other, and its place as to that isn't clear
pub record AreUnclear (rings : List Ring) (c : Crossing) : Type 0 where
  pub outer : Ring
  pub inner : Ring
  pub outer_there : IsOneOf rings outer
  pub inner_there : IsOneOf rings inner
  pub outer_index : outer.index ≡ c.outer
  pub inner_index : inner.index ≡ c.inner
  pub has_area : inner.size ≢ 0
  pub may : may_hold outer inner ≡ true
  pub unclear : place outer inner ≡ Unclear

-- rings are no tree: the least ring that holds one has not one holder less
pub record AreNoTree (rings : List Ring) (c : Crossing) : Type 0 where
  pub holders : Holders
  pub held : holders_of rings ≡ Ok holders
  pub least : c.outer ≡ slice_index holders.leasts c.inner
  pub odd : is_odd_one holders c.inner (slice_index holders.counts c.inner) ≡ true

-- two rings cross, for one or the other
abbrev pub CrossingHolds : List Ring → Crossing → Type 0
CrossingHolds rings c = AreUnclear rings c ⊎ AreNoTree rings c
