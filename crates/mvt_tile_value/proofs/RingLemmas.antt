-- The rings of a feature that were noted.
use Rattle.std.proofs.Common.{◌≡◌, ℕ, ◌+◌, true, false, cond, List, [], ◌∷◌, ◌++◌, length, map, refl, sym, ap, ap₂, subst, ◌∙◌, arith, append-nil, append_assoc, length-append}
use Rattle.std.specs.List.{flat_map}
use Rattle.std.proofs.lemmas.Grind.{flat_map-append}
use Rattle.mvt_feature.specs.declared.feature.Feature.{Feature}
use Rattle.mvt_geometry.specs.declared.shape.Geometry.{Geometry}
use Rattle.mvt_geometry.specs.declared.shape.Geometry.TheVariants.{Unknown, Points, Lines, Polygons}
use Rattle.mvt_geometry.specs.declared.shape.Point.{Point}
use Rattle.mvt_geometry.specs.declared.shape.Polygon.{Polygon}
use Rattle.mvt_geometry.specs.Shape.{rings_of}
use Rattle.mvt_geometry.specs.Visiting.{Part, plain, ring_part, ring_parts, HasDrawn}
use Rattle.mvt_tile_value.specs.declared.layer_noting.LayerNotes.{LayerNotes}
use Rattle.mvt_tile_value.specs.declared.ring_noting.RingNotes.{RingNotes}
use Rattle.mvt_tile_value.specs.FirstIds.{AreFirst}
use Rattle.mvt_tile_value.specs.Findings.{AreNoted, AreNotedSoFar, HaveNotedLayerParts, IsSameButRings}
use Rattle.mvt_tile_value.specs.Notes.{first_of, numbered, ring_notes}
use Rattle.mvt_tile_value.specs.Rings.{rings_in, HasBegun, HasNotedRing, HasNotedAll, HaveNoted}
use Rattle.mvt_tile_value.proofs.NoteLemmas.{numbered-append}

-- the rings among the parts of a geometry

no_rings : (lines : List (List Point)) → rings_in (map plain lines) ≡ []
no_rings [] = refl
no_rings (line ∷ lines) = no_rings lines

inner_rings : (rings : List (List Point)) → rings_in (map (ring_part false) rings) ≡ rings
inner_rings [] = refl
inner_rings (ring ∷ rings) = ap (λ rs. ring ∷ rs) (inner_rings rings)

polygon_rings : (polygons : List Polygon) → rings_in (flat_map ring_parts polygons) ≡ rings_of polygons
polygon_rings [] = refl
polygon_rings (p ∷ polygons) =
    flat_map-append (λ (q : Part). cond q.ring (q.points ∷ []) []) (ring_parts p) (flat_map ring_parts polygons)
    ∙ ap₂ (λ rs more. (p.outer ∷ rs) ++ more) (inner_rings p.rest) (polygon_rings polygons)

-- one part more

rings_more : (parts : List Part) (part : Part) → rings_in (parts ++ part ∷ []) ≡ rings_in parts ++ cond part.ring (part.points ∷ []) []
rings_more parts part =
    flat_map-append (λ (q : Part). cond q.ring (q.points ∷ []) []) parts (part ∷ [])
    ∙ ap (λ rs. rings_in parts ++ rs) (append-nil (cond part.ring (part.points ∷ []) []))

pub ring_noted : (start old new : RingNotes) (parts : List Part) (part : Part) → part.ring ≡ true → HaveNoted start parts old
    → HasNotedRing part.points old new → HaveNoted start (parts ++ part ∷ []) new
ring_noted start old new parts part is have one =
    let noted = ring_notes start.layer start.feature in
    let rings : rings_in (parts ++ part ∷ []) ≡ rings_in parts ++ part.points ∷ [] =
    rings_more parts part ∙ ap (λ b. rings_in parts ++ cond b (part.points ∷ []) []) is in
    record {
      layer_is = one.layer_is ∙ have.layer_is;
      feature_is = one.feature_is ∙ have.feature_is;
      count_is = omega (arith, one.count_is, have.count_is, ap length rings, length-append (rings_in parts) (part.points ∷ []));
      notes_are = one.notes_are
          ∙ ap₂ (λ l f. old.notes.items ++ ring_notes l f old.count part.points) have.layer_is have.feature_is
          ∙ ap₂ (λ ns k. ns ++ noted k part.points) have.notes_are have.count_is
          ∙ append_assoc start.notes.items (numbered noted start.count (rings_in parts))
          (noted (start.count + length (rings_in parts)) part.points)
          ∙ ap (λ ns. start.notes.items ++ (numbered noted start.count (rings_in parts) ++ ns))
          (sym (append-nil (noted (start.count + length (rings_in parts)) part.points)))
          ∙ ap (λ ns. start.notes.items ++ ns)
          (sym (ap (numbered noted start.count) rings ∙ numbered-append noted start.count (rings_in parts) (part.points ∷ [])));
    }

pub line_noted : (start old : RingNotes) (parts : List Part) (part : Part) → part.ring ≡ false → HaveNoted start parts old
    → HaveNoted start (parts ++ part ∷ []) old
line_noted start old parts part is have =
    let rings : rings_in (parts ++ part ∷ []) ≡ rings_in parts =
    rings_more parts part ∙ ap (λ b. rings_in parts ++ cond b (part.points ∷ []) []) is ∙ append-nil (rings_in parts) in
    record {
      layer_is = have.layer_is;
      feature_is = have.feature_is;
      count_is = have.count_is ∙ ap (λ rs. start.count + length rs) (sym rings);
      notes_are = have.notes_are
          ∙ ap (λ rs. start.notes.items ++ numbered (ring_notes start.layer start.feature) start.count rs) (sym rings);
    }

-- all parts

these_noted : (layer feature : ℕ) (start now : RingNotes) (parts : List Part) (rings : List (List Point)) → rings_in parts ≡ rings
    → HasBegun layer feature start → HaveNoted start parts now
    → (now.layer ≡ layer) × (now.notes.items ≡ numbered (ring_notes layer feature) 0 rings)
these_noted layer feature start now parts rings are begun have = (
  have.layer_is ∙ begun.layer_is,
  have.notes_are ∙ ap (λ ns. ns ++ numbered (ring_notes start.layer start.feature) start.count (rings_in parts)) begun.notes_are
      ∙ ap₂ (λ l f. numbered (ring_notes l f) start.count (rings_in parts)) begun.layer_is begun.feature_is
      ∙ ap₂ (λ k rs. numbered (ring_notes layer feature) k rs) begun.count_is are,
)

pub all_noted_of : (layer feature : ℕ) (start now : RingNotes) (g : Geometry) → HasBegun layer feature start
    → HasDrawn (λ first parts begun last. HaveNoted first parts last) (λ first integers last. last ≡ first) start now g
    → HasNotedAll layer feature g now
all_noted_of layer feature start now (Unknown integers) begun drawn = record {
  layer_is = ap (λ (r : RingNotes). r.layer) drawn ∙ begun.layer_is;
  notes_are = ap (λ (r : RingNotes). r.notes.items) drawn ∙ begun.notes_are;
}
all_noted_of layer feature start now (Points points) begun drawn =
    let noted = these_noted layer feature start now (plain points ∷ []) [] refl begun drawn in
    record { layer_is = noted.0; notes_are = noted.1 }
all_noted_of layer feature start now (Lines lines) begun drawn =
    let noted = these_noted layer feature start now (map plain lines) [] (no_rings lines) begun drawn in
    record { layer_is = noted.0; notes_are = noted.1 }
all_noted_of layer feature start now (Polygons polygons) begun drawn =
    let noted = these_noted layer feature start now (flat_map ring_parts polygons) (rings_of polygons) (polygon_rings polygons) begun
    drawn in
    record { layer_is = noted.0; notes_are = noted.1 }

-- whatever parts were told, the layer stays
pub told_layer : (layer feature : ℕ) (start now : RingNotes) (parts : List Part) → HasBegun layer feature start → HaveNoted start parts now
    → now.layer ≡ layer
told_layer layer feature start now parts begun have = have.layer_is ∙ begun.layer_is

-- the notes of a layer, which was told the geometry of its next feature

pub still_noted : (layer : ℕ) (features : List Feature) (start now : LayerNotes) → IsSameButRings start now → AreNoted layer start features
    → AreNoted layer now features
still_noted layer features start now same noted = record {
  layer_is = same.layer_is ∙ noted.layer_is;
  count_is = same.count_is ∙ noted.count_is;
  ids_are = subst (λ ids. AreFirst ids (λ q. first_of q features)) (sym same.ids_are) noted.ids_are;
  notes_are = same.notes_are ∙ noted.notes_are;
}

pub told_noted : (layer : ℕ) (features : List Feature) (start now : LayerNotes) (g : Geometry) → AreNotedSoFar layer start features
    → HasDrawn HaveNotedLayerParts (λ first integers last. last ≡ first) start now g
    → AreNoted layer now features × HasNotedAll layer (length features) g now.rings
told_noted layer features start now (Unknown integers) (noted, begun) drawn = (
  subst (λ n. AreNoted layer n features) (sym drawn) noted,
  all_noted_of layer (length features) start.rings now.rings (Unknown integers) begun (ap (λ (n : LayerNotes). n.rings) drawn),
)
told_noted layer features start now (Points points) (noted, begun) drawn = (
  still_noted layer features start now drawn.0 noted,
  all_noted_of layer (length features) start.rings now.rings (Points points) begun drawn.1,
)
told_noted layer features start now (Lines lines) (noted, begun) drawn = (
  still_noted layer features start now drawn.0 noted,
  all_noted_of layer (length features) start.rings now.rings (Lines lines) begun drawn.1,
)
told_noted layer features start now (Polygons polygons) (noted, begun) drawn = (
  still_noted layer features start now drawn.0 noted,
  all_noted_of layer (length features) start.rings now.rings (Polygons polygons) begun drawn.1,
)
