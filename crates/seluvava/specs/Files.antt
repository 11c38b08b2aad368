-- What is said of the header of a PPM to C and Rust (Rules, Frames; Rules, Calls). Definitions only.
use Rattle.std.specs.Prelude.{List, ℕ, get_or}
use Rattle.ppm.specs.declared.header.Header.{Header}
use Rattle.ppm.specs.Header.{header_of, header_answer}
use Rattle.seluvava.specs.declared.files.PpmAnswer.{PpmAnswer}

-- the answer and the values of each case, or zeros in the place of values that it has not
unfoldable pub ppm_answer : Header → PpmAnswer
ppm_answer h =
    let a = header_answer h in
    record {
      number = a.number;
      width = get_or a.values 0 0;
      height = get_or a.values 1 0;
      pixels = get_or a.values 2 0;
    }

unfoldable pub ppm_header : List ℕ → PpmAnswer
ppm_header file = ppm_answer (header_of file)
