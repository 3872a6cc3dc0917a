use Rattle.pages.proofs.Hello.{empty_area, hello_area, hello_cut, hello_none}
use Rattle.pages.proofs.Spellings.{elevation_lowest, elevation_below, elevation_minus_zero, location_last, location_pole, accuracy_apart, replay_absent, flight_lettered, flight_zero, total_radar, total_video}
use Rattle.pages.proofs.pages_hold.Goals as goal

pub returns : goal.returns
returns c = (
  empty_area,
  (
    hello_area,
    (
      hello_cut,
      (
        hello_none,
        (
          elevation_lowest,
          (
            elevation_below,
            (
              elevation_minus_zero,
              (
                location_last,
                (
                  location_pole,
                  (
                    accuracy_apart,
                    (
                      replay_absent,
                      (
                        flight_lettered,
                        (
                          flight_zero,
                          (
                            total_radar,
                            (total_video, tt),
                          ),
                        ),
                      ),
                    ),
                  ),
                ),
              ),
            ),
          ),
        ),
      ),
    ),
  ),
)
