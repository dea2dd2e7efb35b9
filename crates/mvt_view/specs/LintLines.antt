-- A line for each finding of a tile.
use Rattle.std.specs.Prelude.{ℕ, List, ◌++◌, codes}
use Rattle.std.specs.List.{flat_map}
use Rattle.std.specs.Fmt.{decimal, signed_decimal}
use Rattle.mvt_tile_value.specs.Lint.{findings_of}
use Rattle.mvt_tile_value.specs.declared.finding.Finding.{Finding}
use Rattle.mvt_tile_value.specs.declared.finding.Finding.TheVariants.{ZeroExtent, NoGeometry, UnknownGeometry, FarPoint, LargeId, LargeNumber}
use Rattle.mvt_tile_value.specs.declared.tile.Tile.{Tile}

unfoldable pub finding_line : Finding → List ℕ
finding_line (ZeroExtent layer) = codes "lint ZeroExtent layer " ++ (decimal layer ++ codes "\n")
finding_line (NoGeometry layer feature) =
    codes "lint NoGeometry layer " ++ (decimal layer ++ (codes " feature " ++ (decimal feature ++ codes "\n")))
finding_line (UnknownGeometry layer feature) =
    codes "lint UnknownGeometry layer " ++ (decimal layer ++ (codes " feature " ++ (decimal feature ++ codes "\n")))
finding_line (FarPoint layer feature x y) =
    codes "lint FarPoint layer "
    ++ (decimal layer
    ++ (codes " feature "
    ++ (decimal feature ++ (codes " position " ++ (signed_decimal x ++ (codes " " ++ (signed_decimal y ++ codes "\n")))))))
finding_line (LargeId layer feature) =
    codes "lint LargeId layer " ++ (decimal layer ++ (codes " feature " ++ (decimal feature ++ codes "\n")))
finding_line (LargeNumber layer feature attribute) =
    codes "lint LargeNumber layer "
    ++ (decimal layer ++ (codes " feature " ++ (decimal feature ++ (codes " attribute " ++ (decimal attribute ++ codes "\n")))))

-- the lines of a tile's findings
abbrev pub lint_lines : Tile → List ℕ
lint_lines tile = flat_map finding_line (findings_of tile)
