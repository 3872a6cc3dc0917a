-- The pages of single fields, each found by computing what the book reads.
use Rattle.std.proofs.Common.{◌≡◌, ℕ, [], codes, refl, arith}
use Rattle.kinds.specs.Numbers.{number}
use Rattle.kinds.specs.Points.{point}
use Rattle.kinds.specs.Signs.{signed}
use Rattle.kinds.specs.Texts.{word}
use Rattle.places.specs.Locations.{location}
use Rattle.codes.specs.Letters.{letter}
use Rattle.codes.specs.Replays.{replay}
use Rattle.codes.specs.Turns.{turn}
use Rattle.fields.specs.Accuracies.{accuracy}
use Rattle.rows.specs.Slots.{slot}
use Rattle.issued.specs.Published.{aimidb, stdidc, acftb}
use Rattle.pages.specs.Pages.{Holds}
use Rattle.pages.specs.Pages.Page.{reads, unread, absent, differ}

pub elevation_lowest : Holds (reads (codes "ACFTB ") (codes "ENTELV") (codes "SAR ") (codes "-01000"))
unfolding slot signed number aimidb stdidc acftb
elevation_lowest = (_, refl)

pub elevation_below : Holds (unread (codes "ACFTB ") (codes "ENTELV") (codes "SAR ") (codes "-01001"))
unfolding slot signed number aimidb stdidc acftb
elevation_below = refl

pub elevation_minus_zero : Holds (unread (codes "ACFTB ") (codes "ENTELV") (codes "SAR ") (codes "-00000"))
unfolding slot signed number aimidb stdidc acftb
elevation_minus_zero = refl

pub location_last : Holds (reads (codes "AIMIDB") (codes "LOCATION") [] (codes "8959N17959E"))
unfolding slot location number aimidb stdidc acftb
location_last = (_, refl)

pub location_pole : Holds (unread (codes "AIMIDB") (codes "LOCATION") [] (codes "9000N00000E"))
unfolding slot location number aimidb stdidc acftb
location_pole = refl

pub accuracy_apart : Holds (differ (codes "ACFTB ") (codes "LOC_ACCY") (codes "SAR ") (codes "000.00") (codes "000000"))
unfolding slot accuracy point number word aimidb stdidc acftb
accuracy_apart = (_, _, refl, refl, λ e. let z : ◌≡◌ {A = ℕ} 0 1 = cc in omega arith)

pub replay_absent : Holds (absent (codes "AIMIDB") (codes "REPLAY") [] (codes "   "))
unfolding slot replay aimidb stdidc acftb
replay_absent = refl

pub flight_lettered : Holds (reads (codes "AIMIDB") (codes "FLIGHT_NO") [] (codes "A1"))
unfolding slot turn letter number aimidb stdidc acftb
flight_lettered = (_, refl)

pub flight_zero : Holds (unread (codes "AIMIDB") (codes "FLIGHT_NO") [] (codes "A0"))
unfolding slot turn letter number aimidb stdidc acftb
flight_zero = refl

pub total_radar : Holds (reads (codes "ACFTB ") (codes "MTI_TOT") (codes "SAR ") (codes "001"))
unfolding slot number aimidb stdidc acftb
total_radar = (_, refl)

pub total_video : Holds (unread (codes "ACFTB ") (codes "MTI_TOT") (codes "VFFR") (codes "001"))
unfolding slot number aimidb stdidc acftb
total_video = refl
