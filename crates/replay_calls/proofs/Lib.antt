-- Laws of the calls.
mod CallLaws
