-- Judging the fields at the front of some bytes.
use Rattle.std.proofs.Common.{◌⊎◌, inl, inr, ◌≡◌, ◌≢◌, ℕ, ◌+◌, ◌≤◌, true, false, eqb, List, [], ◌∷◌, ◌++◌, length, map, drop, Option, Some, None, Result, Ok, Err, OnOk, IfOk, IfErr, refl, sym, ap, ap₂, subst, ◌∙◌, arith, append_assoc, append-nil, length-append}
use Rattle.std.specs.List.{flat_map}
use Rattle.std.specs.Option.{option_or, option_map}
use Rattle.std.proofs.lemmas.Bool.{eq-eqb, ne_eqb}
use Rattle.std.proofs.lemmas.List.{map-append}
use Rattle.mvt_base.specs.Rules.{each, first}
use Rattle.mvt_base.proofs.RuleLemmas.{first-append, option_or-none, option_or-nones, each-append, each_first}
use Rattle.mvt_base.proofs.ListLemmas.{length-related}
use Rattle.mvt_wire.specs.Field.{Entry, Content, entry_of, content_of}
use Rattle.mvt_wire.specs.declared.field.Payload.{Payload}
use Rattle.mvt_wire.specs.declared.field.Payload.TheVariants.{Varint, I64, I32}
use Rattle.mvt_wire.specs.Fields.{GivesEntry, EndsBy, bytes_size}
use Rattle.mvt_wire.specs.Fronts.{rest_cause}
use Rattle.mvt_wire.specs.Split.{Parts, split, split_from, shifted}
use Rattle.mvt_wire.specs.declared.fault.WireFault.{WireFault}
use Rattle.mvt_wire.specs.declared.fault.WireCause.TheVariants as wire
use Rattle.mvt_wire.specs.declared.field.Field.{Field}
use Rattle.mvt_feature.specs.Causes.{of_wire}
use Rattle.mvt_feature.specs.declared.cause.Cause.TheVariants.{WrongType}
use Rattle.mvt_message.specs.declared.item.Item.{Item}
use Rattle.mvt_message.specs.ItemRules.{item_fault, payload_names}
use Rattle.mvt_message.specs.Items.{names_in}
use Rattle.mvt_wire.proofs.WireLaws.{one_cause_end, split_function_count, split_steps_place}
use Rattle.mvt_tile.specs.declared.fault.DecodeError.{DecodeError}
use Rattle.mvt_tile.specs.declared.fault.DecodeError.TheVariants.{Memory, Fault, Read}
use Rattle.mvt_tile.specs.declared.fault.Fault.{Fault as AFault}
use Rattle.mvt_tile_value.specs.declared.numbers.tile.TheConstants.{LAYERS}
use Rattle.mvt_tile.specs.Faults.{outer_fault, in_layer, is_open}
use Rattle.mvt_tile.specs.Inner.Judging.{name_fault, payload_fault, fault_after, IsJudged, IsPlaceOf, IsOneItemMore, ReportsAfter}
use Rattle.mvt_tile.specs.Streams.{ReportsEarly}
use Rattle.mvt_tile.specs.TileRules.{is_bytes, field_rules, rest_rules, rest_rules_at}
use Rattle.mvt_tile_value.specs.Tiles.{layers_of, HoldsItem, AreItems}
use Rattle.mvt_tile.specs.Visiting.{payloads_in, payloads_of}
use Rattle.mvt_tile.proofs.LayerLemmas.{first-wrong}
use Rattle.mvt_tile.proofs.ItemLemmas.{are_over, are_more, first-after, are_clean}
use Rattle.mvt_tile.proofs.ShiftLemmas.{split_at_place, rest_dropped, place_within}

-- what an error tells of a part, it tells of the whole

pub reports_front : (e : DecodeError) (a b : Option AFault) → ReportsEarly e a → ReportsEarly e (option_or a b)
reports_front Memory a b h = tt
reports_front (Fault f) None b h = absurd (let k = h.0 in cc)
reports_front (Fault f) (Some g) b h = h
reports_front (Read k) a b h = absurd h

pub reports_back : (e : DecodeError) (a b : Option AFault) → a ≡ None → ReportsEarly e b → ReportsEarly e (option_or a b)
reports_back e a b none h = subst (ReportsEarly e) (sym (option_or-none a b none)) h

-- of a payload

-- what is told of a name is told of a payload that has it, and no fault of its own
pub reports_name : (e : DecodeError) (n : ℕ) (names given : List (List ℕ)) (d : List ℕ) (payload_at tag_at : ℕ)
    → item_fault d payload_at tag_at ≡ None → given ≡ payload_names d → ReportsEarly e (name_fault n names given tag_at)
    → ReportsEarly e (payload_fault n names d payload_at tag_at)
reports_name e n names given d payload_at tag_at none is reported =
    reports_back e (option_map (in_layer n) (item_fault d payload_at tag_at)) (name_fault n names (payload_names d) tag_at)
    (ap (option_map (in_layer n)) none) (subst (λ g. ReportsEarly e (name_fault n names g tag_at)) is reported)

-- of a field

-- after whatever fields are the old items, this field makes them the new ones
abbrev pub IsNext : List Item → Entry → List Item → Type 0
IsNext old x new = (front : List Entry) → AreItems front old → AreItems (front ++ x ∷ []) new

-- an error tells the fault of this field after whatever fields are the items
abbrev pub ReportsOf : DecodeError → List Item → Entry → Type 0
ReportsOf e items x = (front : List Entry) → AreItems front items → ReportsEarly e (first (field_rules front x))

pub field_over : (items : List Item) (offset : ℕ) (x : Entry) → (x.number ≡ LAYERS → ⊥) → IsNext items (shifted offset x) items
field_over items offset x other front are = are_over front items (shifted offset x) are (ne_eqb x.number LAYERS other)

-- where the item of a field is taken
module _ (items : List Item) (offset : ℕ) (x : Entry) (d : List ℕ) (payload_at tag_at : ℕ)
    (place : IsPlaceOf offset x d payload_at tag_at) where
  is_layer : eqb x.number LAYERS ≡ true
  is_layer = eq-eqb x.number LAYERS place.is_layer

  pub field_gives : (Knows : List Item → Type 0) (r : Result (Unit {0}) DecodeError)
      → OnOk r ((new : List Item) × Knows new × IsOneItemMore items new d)
      → OnOk r ((new : List Item) × Knows new × (length new ≤ length items + 1) × IsNext items (shifted offset x) new)
  field_gives Knows (Err e) h = tt
  field_gives Knows (Ok u) h =
      let taken : IsOneItemMore items h.0 d = h.2 in
      let next : IsNext items (shifted offset x) h.0 = λ front are.
      subst (AreItems (front ++ shifted offset x ∷ [])) (sym taken.1)
      (are_more front items (shifted offset x) d taken.0 are is_layer place.holds taken.2 taken.3) in
      (h.0, h.1, omega (arith, ap length taken.1, length-append items (taken.0 ∷ [])), next)

  pub field_reports : (r : Result (Unit {0}) DecodeError)
      → IfErr r (λ e. ReportsEarly e (payload_fault (length items) (flat_map names_in items) d payload_at tag_at))
      → IfErr r (λ e. ReportsOf e items (shifted offset x))
  field_reports (Ok u) h = tt
  field_reports (Err e) h = λ front are.
      let names = flat_map names_in items in
      let here : ReportsEarly e (payload_fault (length items) names d (offset + x.body) (offset + x.at)) =
      subst (λ b. ReportsEarly e (payload_fault (length items) names d b (offset + x.at))) place.payload_at_is
      (subst (λ o. ReportsEarly e (payload_fault (length items) names d payload_at o)) place.tag_at_is h) in
      subst (ReportsEarly e) (sym (first-after front items (shifted offset x) d are is_layer place.holds))
      (subst (λ n. ReportsEarly e (payload_fault n names d (offset + x.body) (offset + x.at)))
      (sym (length-related HoldsItem (layers_of front) items are.held)) here)

pub field_wrong : (offset : ℕ) (x : Entry) (c : Content) → x.number ≡ LAYERS → x.content ≡ c → is_bytes c ≡ false → (front : List Entry)
    → ReportsEarly (Fault (outer_fault (offset + x.at) WrongType)) (first (field_rules front (shifted offset x)))
field_wrong offset x c is_layer held other front =
    (first-wrong front (shifted offset x) (eq-eqb x.number LAYERS is_layer) (ap is_bytes held ∙ other), refl)

-- fields that are items have no fault

each_after : (front xs ys : List Entry)
    → first (each field_rules front (xs ++ ys)) ≡ option_or (first (each field_rules front xs)) (first (each field_rules (front ++ xs) ys))
each_after front xs ys =
    ap first (each-append field_rules front xs ys) ∙ first-append (each field_rules front xs) (each field_rules (front ++ xs) ys)

pub fields_clean : (front xs : List Entry) (items : List Item) → AreItems (front ++ xs) items → first (each field_rules front xs) ≡ None
fields_clean front xs items are =
    (option_or-nones (first (each field_rules [] front)) (first (each field_rules front xs))
    (sym (each_after [] front xs) ∙ are_clean (front ++ xs) items are)).1

-- of the fields so far

pub record JudgedSoFar (offset : ℕ) (b : List ℕ) (old now : List Item) (to_come : Parts) : Type 0 where
  pub done : List Entry
  pub fields : (split b).fields ≡ done ++ to_come.fields
  pub rest : to_come.rest ≡ (split b).rest
  pub place : to_come.rest_at ≡ (split b).rest_at
  pub items_are : (front : List Entry) → AreItems front old → AreItems (front ++ map (shifted offset) done) now
  pub few : length now ≤ length old + length done

unfoldable pub so_far_start : (offset : ℕ) (b : List ℕ) (items : List Item) (to_come : Parts) → to_come ≡ split b
    → JudgedSoFar offset b items items to_come
so_far_start offset b items to_come all = record {
  done = [];
  fields = ap (λ (p : Parts). p.fields) (sym all);
  rest = ap (λ (p : Parts). p.rest) all;
  place = ap (λ (p : Parts). p.rest_at) all;
  items_are = λ front are. subst (λ xs. AreItems xs items) (sym (append-nil front)) are;
  few = omega arith;
}

rest_reported : (at : ℕ) (rest : List ℕ) → rest ≢ [] → first (rest_rules_at at rest) ≡ Some (outer_fault at (of_wire (rest_cause rest)))
rest_reported at [] some = absurd (some refl)
rest_reported at (b ∷ bs) some = refl

shut_cause : (at : ℕ) (c : _) → c ≢ wire.Truncated → is_open (outer_fault at (of_wire c)) ≡ false
shut_cause at wire.Truncated ne = absurd (ne refl)
shut_cause at wire.VarintRange ne = refl
shut_cause at wire.FieldNumber ne = refl
shut_cause at wire.WireType ne = refl

module _ (offset : ℕ) (b : List ℕ) (old now : List Item) (before : Parts) (so_far : JudgedSoFar offset b old now before) where
  pub so_far_count : length now ≤ length old + length b
  so_far_count =
      let count = split_function_count b in
      let sum : length (split b).fields ≡ length so_far.done + length before.fields =
      ap length so_far.fields ∙ length-append so_far.done before.fields in
      omega (arith, count, sum, so_far.few)

  -- the next field
  module _ (to_come : Parts) (field : Field) (step : GivesEntry before (Some (Ok field)) to_come) where
    abbrev x : Entry
    x = entry_of field

    pub so_far_place : (field.at ≤ length b) × (field.body + bytes_size x.content ≤ length b)
    so_far_place =
        let within = place_within b in
        let place = so_far.place in
        let ends : EndsBy before.rest_at x = step.1 in
        (omega (arith, ends.0), omega (arith, ends.1))

    unfoldable pub so_far_step : (after : List Item) → IsNext now (shifted offset x) after → length after ≤ length now + 1
        → JudgedSoFar offset b old after to_come
    so_far_step after next few = record {
      done = so_far.done ++ x ∷ [];
      fields = so_far.fields ∙ ap (λ (p : Parts). so_far.done ++ p.fields) step.0 ∙ sym (append_assoc so_far.done (x ∷ []) to_come.fields);
      rest = sym (ap (λ (p : Parts). p.rest) step.0) ∙ so_far.rest;
      place = sym (ap (λ (p : Parts). p.rest_at) step.0) ∙ so_far.place;
      items_are = λ front are.
          subst (λ xs. AreItems xs after)
          (append_assoc front (map (shifted offset) so_far.done) (shifted offset x ∷ [])
          ∙ ap (λ xs. front ++ xs) (sym (map-append (shifted offset) so_far.done (x ∷ []))))
          (next (front ++ map (shifted offset) so_far.done) (so_far.items_are front are));
      few = let sum = length-append so_far.done (x ∷ []) in let before_few = so_far.few in omega arith;
    }

    -- it is at fault
    pub so_far_fails : (e : DecodeError) → ReportsOf e now (shifted offset x) → ReportsAfter e offset b old
    so_far_fails e reported front are =
        let done = map (shifted offset) so_far.done in
        let later = map (shifted offset) to_come.fields in
        let now_are = so_far.items_are front are in
        let parts = split_from offset b in
        let is : parts.fields ≡ done ++ shifted offset x ∷ later =
        ap (λ (p : Parts). p.fields) (split_at_place offset b)
        ∙ ap (map (shifted offset)) (so_far.fields ∙ ap (λ (p : Parts). so_far.done ++ p.fields) step.0)
        ∙ map-append (shifted offset) so_far.done (x ∷ to_come.fields) in
        reports_front e (first (each field_rules front parts.fields)) (first (rest_rules parts))
        (subst (λ xs. ReportsEarly e (first (each field_rules front xs))) (sym is)
        (subst (ReportsEarly e) (sym (each_after front done (shifted offset x ∷ later)))
        (reports_back e (first (each field_rules front done)) (first (each field_rules (front ++ done) (shifted offset x ∷ later)))
        (fields_clean front done now now_are)
        (subst (ReportsEarly e) (sym (each_first field_rules (front ++ done) (shifted offset x) later))
        (reports_front e (first (field_rules (front ++ done) (shifted offset x)))
        (first (each field_rules ((front ++ done) ++ shifted offset x ∷ []) later)) (reported (front ++ done) now_are))))))

  -- all fields are judged
  pub so_far_payloads : before.fields ≡ [] → payloads_of so_far.done ≡ payloads_in b
  so_far_payloads none =
      ap payloads_of (sym (so_far.fields ∙ ap (λ xs. so_far.done ++ xs) none ∙ append-nil so_far.done))

  all_done : before.fields ≡ [] → (split_from offset b).fields ≡ map (shifted offset) so_far.done
  all_done none =
      ap (λ (p : Parts). p.fields) (split_at_place offset b)
      ∙ ap (map (shifted offset)) (so_far.fields ∙ ap (λ xs. so_far.done ++ xs) none ∙ append-nil so_far.done)

  judged_all : (used : ℕ) → before.fields ≡ [] → used ≡ (split b).rest_at → rest_cause (split b).rest ≡ wire.Truncated
      → IsJudged offset b old now used
  judged_all used none is unfinished =
      let dropped : (split b).rest ≡ drop used b = rest_dropped b ∙ ap (λ n. drop n b) (sym is) in
      let within = place_within b in
      let count = split_function_count b in
      let place = split_steps_place 0 b in
      let sum : length (split b).fields ≡ length so_far.done + length before.fields =
      ap length so_far.fields ∙ length-append so_far.done before.fields in
      let few = so_far.few in
      record {
        place = ap (λ (p : Parts). p.rest_at) (split_at_place offset b) ∙ ap (λ n. offset + n) (sym is);
        within = omega arith;
        rest = ap (λ (p : Parts). p.rest) (split_at_place offset b) ∙ dropped;
        unfinished = ap rest_cause (sym dropped) ∙ unfinished;
        items_are = λ front are. subst (λ xs. AreItems (front ++ xs) now) (sym (all_done none)) (so_far.items_are front are);
        few = omega arith;
      }

  -- no byte is left
  pub so_far_ends : (to_come : Parts) → GivesEntry before None to_come → IsJudged offset b old now (length b)
  so_far_ends to_come step =
      let empty : (split b).rest ≡ [] = sym so_far.rest ∙ step.1 in
      let place = split_steps_place 0 b in
      let none : length (split b).rest ≡ 0 = ap length empty in
      judged_all (length b) step.0 (omega arith) (ap rest_cause empty ∙ one_cause_end)

  -- the rest is unfinished, or at fault
  module _ (to_come : Parts) (fault : WireFault) (step : GivesEntry before (Some (Err fault)) to_come) where
    pub so_far_rest : (r : Result ℕ DecodeError) → IfOk r (λ n. (n ≡ fault.at) × (fault.cause ≡ wire.Truncated))
        → IfOk r (IsJudged offset b old now)
    so_far_rest (Err e) h = tt
    so_far_rest (Ok n) h = judged_all n step.0 (h.0 ∙ step.2 ∙ so_far.place) (ap rest_cause (sym so_far.rest) ∙ sym step.3 ∙ h.1)

    pub so_far_broken : (r : Result ℕ DecodeError)
        → IfErr r (λ e. (fault.cause ≢ wire.Truncated) × (e ≡ Fault (outer_fault (offset + fault.at) (of_wire fault.cause))))
        → IfErr r (λ e. ReportsAfter e offset b old)
    so_far_broken (Ok n) h = tt
    so_far_broken (Err e) h = λ front are.
        let done = map (shifted offset) so_far.done in
        let parts = split_from offset b in
        let cause = of_wire fault.cause in
        let at : parts.rest_at ≡ offset + fault.at =
        ap (λ (p : Parts). p.rest_at) (split_at_place offset b) ∙ ap (λ n. offset + n) (sym so_far.place ∙ sym step.2) in
        let rest : parts.rest ≡ before.rest = ap (λ (p : Parts). p.rest) (split_at_place offset b) ∙ sym so_far.rest in
        let reported : first (rest_rules parts) ≡ Some (outer_fault (offset + fault.at) cause) =
        ap₂ (λ a r. first (rest_rules_at a r)) at rest ∙ rest_reported (offset + fault.at) before.rest step.1
        ∙ ap (λ c. Some (outer_fault (offset + fault.at) (of_wire c))) (sym step.3) in
        subst (λ x. ReportsEarly x (fault_after front parts)) (sym h.1)
        (reports_back (Fault (outer_fault (offset + fault.at) cause)) (first (each field_rules front parts.fields))
        (first (rest_rules parts))
        (ap (λ xs. first (each field_rules front xs)) (all_done step.0) ∙ fields_clean front done now (so_far.items_are front are))
        (reported, shut_cause (offset + fault.at) fault.cause h.0))

-- a field that holds no bytes
pub not_bytes : (p : Payload) → ((n : ℕ) × (p ≡ Varint n)) ⊎ (((n : ℕ) × (p ≡ I64 n)) ⊎ ((n : ℕ) × (p ≡ I32 n)))
    → is_bytes (content_of p) ≡ false
not_bytes p (inl h) = ap (λ x. is_bytes (content_of x)) h.1
not_bytes p (inr (inl h)) = ap (λ x. is_bytes (content_of x)) h.1
not_bytes p (inr (inr h)) = ap (λ x. is_bytes (content_of x)) h.1

-- the items that are judged so far are there
pub judged_there : (Knows : List Item → Type 0) (offset : ℕ) (b : List ℕ) (old now : List Item) (r : Result ℕ DecodeError)
    → Knows now → IfOk r (IsJudged offset b old now)
    → IfOk r (λ used. (new : List Item) × Knows new × IsJudged offset b old new used)
judged_there Knows offset b old now (Ok n) known h = (now, known, h)
judged_there Knows offset b old now (Err e) known h = tt
