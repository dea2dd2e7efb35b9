-- A line for each change of a tile, and for why one isn't mended.
use Rattle.std.specs.Prelude.{ℕ, List, ◌++◌, codes}
use Rattle.std.specs.Fmt.{decimal}
use Rattle.mvt_mend.specs.declared.change.Change.{Change}
use Rattle.mvt_mend.specs.declared.change.Change.TheVariants.{TurnedRing, RepeatedPoint, PartLeftOut, FeatureLeftOut, MovedRing}
use Rattle.mvt_mend.specs.declared.change.Unmended.{Unmended}
use Rattle.mvt_mend.specs.declared.change.Unmended.TheVariants.{RingsCross, TooManySteps, AnotherRule}

-- a feature, and what follows
abbrev pub at_feature : ℕ → ℕ → List ℕ → List ℕ
at_feature layer feature more = codes "mended layer " ++ (decimal layer ++ (codes " feature " ++ (decimal feature ++ more)))

unfoldable pub change_line : Change → List ℕ
change_line (TurnedRing layer feature ring) = at_feature layer feature (codes ": TurnedRing " ++ (decimal ring ++ codes "\n"))
change_line (RepeatedPoint layer feature part count) =
    at_feature layer feature (codes ": RepeatedPoint " ++ (decimal part ++ (codes " count " ++ (decimal count ++ codes "\n"))))
change_line (PartLeftOut layer feature part count) =
    at_feature layer feature (codes ": PartLeftOut " ++ (decimal part ++ (codes " count " ++ (decimal count ++ codes "\n"))))
change_line (FeatureLeftOut layer feature count) =
    at_feature layer feature (codes ": FeatureLeftOut count " ++ (decimal count ++ codes "\n"))
change_line (MovedRing layer feature ring to) =
    at_feature layer feature (codes ": MovedRing " ++ (decimal ring ++ (codes " to " ++ (decimal to ++ codes "\n"))))

-- why a tile isn't mended
unfoldable pub unmended_line : Unmended → List ℕ
unmended_line (RingsCross layer feature crossing) =
    codes "mvt: not mended: layer "
    ++ (decimal layer
    ++ (codes " feature "
    ++ (decimal feature ++ (codes ": rings " ++ (decimal crossing.outer ++ (codes " and " ++ (decimal crossing.inner ++ codes " cross\n")))))))
unmended_line TooManySteps = codes "mvt: not mended: rings take more than 1073741824 steps\n"
unmended_line AnotherRule = codes "mvt: not mended: another rule is broken\n"
