-- What the helpers of `answer_key` write and return.
pub mod Lines
