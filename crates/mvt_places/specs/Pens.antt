-- What the integers of a geometry draw, one after the other, whatever they are (Mapbox Vector Tile Specification 2.1, 4.3).
use Rattle.std.specs.Prelude.{ℕ, ◌-◌, ◌*◌, ◌/◌, ◌%◌, ◌^◌, ◌==◌, ◌&&◌, ◌||◌, Bool, true, false, List, [], ◌∷◌, nat_le, if◌then◌else◌, ◌+ℤ◌}
use Rattle.mvt_wire.specs.Zigzag.{unzig}
use Rattle.mvt_geometry.specs.Shape.{origin, wide}
use Rattle.mvt_geometry.specs.Table.{is_outside}
use Rattle.mvt_places.specs.declared.integers.Integer.{Integer}
use Rattle.mvt_places.specs.declared.pen.Role.{Role}
use Rattle.mvt_places.specs.declared.pen.Role.TheVariants.{Nothing, MoveTo, LineTo, ClosePath, MoveX, MoveY, LineX, LineY}
use Rattle.mvt_places.specs.declared.pen.Step.{Step}

-- before the first integer: no parameter is due, and the cursor is at the origin
abbrev pub before_all : Step
before_all = record { role = ClosePath; left = 0; x = origin.x; y = origin.y }

-- an integer that draws nothing
abbrev pub nothing : Step → Step
nothing s = record s { role = Nothing; left = 0 }

abbrev pub is_nothing : Role → Bool
is_nothing Nothing = true
is_nothing role = false

-- nothing is drawn behind an integer that draws nothing, nor from a position out of range
abbrev pub is_ended : Step → Bool
is_ended s = is_nothing s.role || (is_outside wide s.y || ((s.left % 2 == 0) && is_outside wide s.x))

-- 4.3.1: a command, of which so many parameters follow
abbrev pub begun : Step → Role → ℕ → Step
begun s role left = record s { role = role; left = left }

-- 4.3.1: a command by its number and count
abbrev pub commanded : Step → ℕ → ℕ → Step
commanded s id count =
    if id == 1 then begun s MoveTo (2 * count)
    else if id == 2 then begun s LineTo (2 * count)
    else if id == 7 then begun s ClosePath 0
    else nothing s

-- 4.3.2: the parameters of a command
abbrev pub x_role : Role → Role
x_role LineTo = LineX
x_role LineY = LineX
x_role role = MoveX

abbrev pub y_role : Role → Role
y_role LineX = LineY
y_role role = MoveY

abbrev pub moved : Step → ℕ → Step
moved s n =
    if s.left % 2 == 0 then record s { role = x_role s.role; left = s.left - 1; x = s.x +ℤ unzig n }
    else record s { role = y_role s.role; left = s.left - 1; y = s.y +ℤ unzig n }

-- one integer more
abbrev pub step_after : Step → ℕ → Step
step_after s n =
    if is_ended s || nat_le (2 ^ 32) n then nothing s
    else if s.left == 0 then commanded s (n % 8) (n / 8)
    else moved s n

abbrev pub steps_after : Step → List Integer → List Step
steps_after s [] = []
steps_after s (i ∷ more) = step_after s i.value ∷ steps_after (step_after s i.value) more

-- what each integer is, and where the cursor then stands
abbrev pub drawn_steps : List Integer → List Step
drawn_steps integers = steps_after before_all integers

-- the number of a role in mvt.h: a command's own, and 3 to 6 for parameters
abbrev pub role_number : Role → ℕ
role_number Nothing = 0
role_number MoveTo = 1
role_number LineTo = 2
role_number MoveX = 3
role_number MoveY = 4
role_number LineX = 5
role_number LineY = 6
role_number ClosePath = 7
