mod Results
mod Dumps
mod Files
